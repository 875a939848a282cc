-- Which commands keep a scene from being drawn client by client and put together by depth.
use Rattle.std.specs.Prelude.{◌≡◌, ℕ, ◌<◌, ◌==◌, ◌&&◌, ◌||◌, not, Bool, true, false, slice_index_or, Option, MatchOption}
use Rattle.std.specs.List.{list_any, range_with_len}
use Rattle.rc_base.specs.Contexts.Issue.{context_after, effect_at}
use Rattle.rc_base.specs.Drawing.Serial.{accepted_swaps, is_swap_effect}
use Rattle.rc_base.specs.declared.scene.Scene.{Scene}
use Rattle.rc_base.specs.declared.state.Effect.{Effect}
use Rattle.rc_base.specs.declared.state.Effect.TheVariants as eff
use Rattle.rc_base.specs.declared.state.State.{State}
use Rattle.rc_base.specs.declared.sync.Name.{Name}

-- all four channels are written
abbrev pub writes_all_channels : State → Bool
writes_all_channels s =
    (slice_index_or s.color_mask 0 false && slice_index_or s.color_mask 1 false)
    && (slice_index_or s.color_mask 2 false && slice_index_or s.color_mask 3 false)

-- Of the fragments that are drawn at a pixel the nearest stays whole, and of equally near ones the first: the depth test is on, its function is
-- LESS, depths are stored, nothing is blended, and all channels are written.
unfoldable pub keeps_nearest : State → Bool
keeps_nearest s = (s.depth_on && s.depth_mask) && (s.depth_func == 1 && (not s.blend_on && writes_all_channels s))

abbrev pub is_block : Effect → Bool
is_block eff.Quiet = false
is_block (eff.Refused fault) = false
is_block (eff.Block block) = true
is_block (eff.Clear mask) = false
is_block (eff.Shared part) = false
is_block (eff.Sync op) = false

-- between the client's last accepted Swap before the place, or the start of its stream, and the place a block was drawn
unfoldable pub has_drawn : Scene → ℕ → ℕ → Bool
has_drawn scene client place =
    list_any (λ i. is_block (effect_at scene client i) && (accepted_swaps scene client i == accepted_swaps scene client place)) (range_with_len 0 place)

-- what a command does, in a state that keeps the nearest fragment or not, of a client that has drawn a block in the frame before it or not
abbrev pub is_offence : Bool → ℕ → Bool → Effect → Bool
is_offence keeps client drawn eff.Quiet = false
is_offence keeps client drawn (eff.Refused fault) = false
is_offence keeps client drawn (eff.Block block) = not keeps
is_offence keeps client drawn (eff.Clear mask) = not (client == 0) || drawn
is_offence keeps client drawn (eff.Shared part) = true
is_offence keeps client drawn (eff.Sync op) = not (is_swap_effect (eff.Sync op))

-- the command offends
unfoldable pub offends : Scene → ℕ → ℕ → Bool
offends scene client place = is_offence (keeps_nearest (context_after scene client place).state) client (has_drawn scene client place) (effect_at scene client place)

-- no command does: the scene can be drawn client by client
abbrev pub IsComposable : Scene → Type 0
IsComposable scene = (client place : ℕ) → offends scene client place ≡ false

-- the name offends, and no name of an earlier client, nor an earlier one of its client
pub record IsFirstOffence (scene : Scene) (n : Name) : Type 0 where
  pub is : offends scene n.client n.place ≡ true
  pub clients : (client place : ℕ) → client < n.client → offends scene client place ≡ false
  pub places : (place : ℕ) → place < n.place → offends scene n.client place ≡ false

-- the first name that offends; there is none where the scene can be drawn client by client
abbrev pub IsFirstOffenceIfAny : Scene → Option Name → Type 0
IsFirstOffenceIfAny scene offence = MatchOption offence (IsComposable scene) (λ n. IsFirstOffence scene n)

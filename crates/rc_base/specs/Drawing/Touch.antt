-- Which pixels a command touches, and which shared textures it samples and writes, whatever later tests say.
use Rattle.std.specs.Prelude.{ℕ, ◌==◌, ◌&&◌, nat_lt, Bool, false, ℤ}
use Rattle.std.specs.List.{list_any}
use Rattle.rc_base.specs.Drawing.Pieces.{kept_triangles}
use Rattle.rc_base.specs.Drawing.Cover.{covers, is_in_scissor}
use Rattle.rc_base.specs.Drawing.Texel.{samples_shared}
use Rattle.rc_base.specs.declared.state.State.{State}
use Rattle.rc_base.specs.declared.state.Block.{Block}
use Rattle.rc_base.specs.declared.state.Effect.{Effect}
use Rattle.rc_base.specs.declared.state.Effect.TheVariants as eff

-- a kept triangle of the block covers the pixel
abbrev pub block_touches : State → Block → ℤ → ℤ → Bool
block_touches s block x y = list_any (λ v. covers s v x y) (kept_triangles s block)

-- what a command does touches the pixel of the window: by the cover of a block, or the area of a Clear
unfoldable pub touches : State → Effect → ℤ → ℤ → Bool
touches s eff.Quiet x y = false
touches s (eff.Refused fault) x y = false
touches s (eff.Block block) x y = block_touches s block x y
touches s (eff.Clear mask) x y = is_in_scissor s x y
touches s (eff.Shared part) x y = false
touches s (eff.Sync op) x y = false

-- a block may sample the shared texture of this name; it does where its touched set isn't empty
abbrev pub may_sample : State → Effect → ℕ → Bool
may_sample s eff.Quiet name = false
may_sample s (eff.Refused fault) name = false
may_sample s (eff.Block block) name = samples_shared s name
may_sample s (eff.Clear mask) name = false
may_sample s (eff.Shared part) name = false
may_sample s (eff.Sync op) name = false

-- an accepted SharedImage with both sides above 0 writes the texture of its name
abbrev pub writes_shared : Effect → ℕ → Bool
writes_shared eff.Quiet name = false
writes_shared (eff.Refused fault) name = false
writes_shared (eff.Block block) name = false
writes_shared (eff.Clear mask) name = false
writes_shared (eff.Shared part) name = part.name == name && (nat_lt 0 part.w && nat_lt 0 part.h)
writes_shared (eff.Sync op) name = false

-- Looks: what hierarchical dirty bits count, without the bits. An element is pending to a tile from an accepted command that sets it until a Draw
-- or Clear parcel to the tile examines it.
use Rattle.std.specs.Prelude.{ℕ, zero, suc, ◌+◌, ◌&&◌, ◌||◌, not, nat_eq, map, Bool, false, true, List, [], ◌∷◌, length, sum, is_some, if◌then◌else◌}
use Rattle.std.specs.List.{range_with_len, list_any}
use Rattle.std.specs.Option.{option_map_or}
use Rattle.rc_base.specs.Contexts.Issue.{command_at, context_after, fault_at, effect_at}
use Rattle.rc_base.specs.Contexts.Elements.{marks, group_sizes, element_count}
use Rattle.rc_base.specs.Cluster.Parcels.{draws_on, examined, set_count}
use Rattle.rc_base.specs.declared.cluster.Tally.{Tally}
use Rattle.rc_base.specs.declared.scene.Scene.{Scene}
use Rattle.rc_base.specs.declared.window.Layout.{Layout}
use Rattle.rc_base.specs.declared.state.Effect.{Effect}
use Rattle.rc_base.specs.declared.state.Effect.TheVariants as eff
use Rattle.rc_base.specs.declared.state.Parcel.{Parcel}

-- an accepted command sets the element
abbrev pub marks_at : Scene → ℕ → ℕ → ℕ → Bool
marks_at scene client place e =
    not (is_some (fault_at scene client place))
    && option_map_or (λ c. option_map_or (nat_eq e) (marks c (context_after scene client place).matrix_mode) false) (command_at scene client place) false

abbrev pub is_block : Effect → Bool
is_block eff.Quiet = false
is_block (eff.Refused fault) = false
is_block (eff.Block block) = true
is_block (eff.Clear mask) = false
is_block (eff.Shared part) = false
is_block (eff.Sync op) = false

-- a Draw or Clear parcel to the tile at this place examines the element
abbrev pub examines_at : Scene → Layout → ℕ → ℕ → ℕ → ℕ → Bool
examines_at scene l client tile place e =
    let x = context_after scene client place in
    let effect = effect_at scene client place in
    draws_on l tile x effect && list_any (nat_eq e) (examined x (is_block effect))

-- the element is pending to the tile before the command at a place
unfoldable pub is_pending : Scene → Layout → ℕ → ℕ → ℕ → ℕ → Bool
is_pending scene l client tile zero e = false
is_pending scene l client tile (suc n) e =
    marks_at scene client n e || (is_pending scene l client tile n e && not (examines_at scene l client tile n e))

-- the sizes of the groups, from element e on, that have such an element
abbrev pub sizes_with : (ℕ → Bool) → ℕ → List ℕ → ℕ
sizes_with test e [] = 0
sizes_with test e (size ∷ sizes) = (if list_any test (range_with_len e size) then size else 0) + sizes_with test (e + size) sizes

-- one look on top, and where something is pending one at each group and one at each element of a group that has something pending
abbrev pub looks_for : (ℕ → Bool) → ℕ
looks_for pending =
    if list_any pending (range_with_len 0 element_count) then 1 + length group_sizes + sizes_with pending 0 group_sizes else 1

-- the looks of the parcel of a place: those of a Draw or Clear parcel
unfoldable pub looks_at : Scene → Layout → ℕ → ℕ → ℕ → ℕ
looks_at scene l client tile place =
    if draws_on l tile (context_after scene client place) (effect_at scene client place) then looks_for (is_pending scene l client tile place) else 0

-- of a list of a client's parcels to a tile
abbrev pub look_count : Scene → Layout → ℕ → ℕ → List Parcel → ℕ
look_count scene l client tile parcels = sum (map (λ (p : Parcel). looks_at scene l client tile p.place) parcels)

-- how many parcels these are, how many elements they set, and how many looks they cost
abbrev pub tally_of : Scene → Layout → ℕ → ℕ → List Parcel → Tally
tally_of scene l client tile parcels = record { parcels = length parcels; sets = set_count parcels; looks = look_count scene l client tile parcels }

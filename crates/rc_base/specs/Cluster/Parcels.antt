-- What a client sends to a tile: its blocks and Clears whose box meets the tile, each with the elements that changed since the tile was
-- last told (lazy state), and its writes of shared textures and operations of synchronisation.
use Rattle.std.specs.Prelude.{ℕ, zero, suc, ◌==◌, ◌&&◌, Bool, true, false, List, [], ◌∷◌, ◌++◌, length, fold, is_some, if◌then◌else◌}
use Rattle.std.specs.List.{flat_map, range_with_len}
use Rattle.rc_base.specs.Contexts.Context.{ClientContext, private_image}
use Rattle.rc_base.specs.Contexts.Issue.{stream_of, context_after, effect_at}
use Rattle.rc_base.specs.Contexts.Elements.{default_value, value_in, same_value, image_element, scalar_count}
use Rattle.rc_base.specs.Drawing.Texel.{bound_kind, bound_name}
use Rattle.rc_base.specs.Cluster.Tiles.{meets_tile}
use Rattle.rc_base.specs.declared.scene.Decl.{Decl}
use Rattle.rc_base.specs.declared.scene.Scene.{Scene}
use Rattle.rc_base.specs.declared.window.Layout.{Layout}
use Rattle.rc_base.specs.declared.state.Act.{Act}
use Rattle.rc_base.specs.declared.state.Act.TheVariants as act
use Rattle.rc_base.specs.declared.state.Effect.{Effect}
use Rattle.rc_base.specs.declared.state.Effect.TheVariants as eff
use Rattle.rc_base.specs.declared.state.ElementSet.{ElementSet}
use Rattle.rc_base.specs.declared.state.ElementValue.{ElementValue}
use Rattle.rc_base.specs.declared.state.Parcel.{Parcel}

-- ---- what a tile was told

-- a value after a set: that of the set where it is of this element
abbrev pub told_by : ℕ → ElementValue → ElementSet → ElementValue
told_by e value set = if set.element == e then set.value else value

-- the value of an element that was last set in these parcels, else the one at first
abbrev pub last_set : List Parcel → ℕ → ElementValue → ElementValue
last_set parcels e first = fold (told_by e) first (flat_map (λ (p : Parcel). p.sets) parcels)

-- what these parcels of a client told their tile of an element: the value last set, the default at first
unfoldable pub told : Decl → List Parcel → ℕ → ElementValue
told d parcels e = last_set parcels e (default_value d e)

-- ---- the sets of a parcel

-- the image that a draw samples of a private texture: texturing is on, and the private texture that is bound has an image
abbrev pub sampled_images : ClientContext → List ℕ
sampled_images x =
    if x.state.texture_on && (bound_kind x.state == 0 && is_some (private_image x (bound_name x.state)))
    then image_element (bound_name x.state) ∷ [] else []

-- the elements that a Draw or Clear parcel examines, in the order of their numbers: the scalar ones, and for a draw the image that it samples
abbrev pub examined : ClientContext → Bool → List ℕ
examined x draws = range_with_len 0 scalar_count ++ (if draws then sampled_images x else [])

-- the element is set where its value differs from the one that the tile was told
abbrev pub set_of : (ℕ → ElementValue) → ClientContext → ℕ → List ElementSet
set_of values x e = if same_value (values e) (value_in x e) then [] else record { element = e; value = value_in x e } ∷ []

-- the sets that a tile gets that was told this, before a draw or a Clear
unfoldable pub sets_for : (ℕ → ElementValue) → ClientContext → Bool → List ElementSet
sets_for values x draws = flat_map (set_of values x) (examined x draws)

-- ---- parcels

-- a block's or a Clear's box meets the tile
abbrev pub draws_on : Layout → ℕ → ClientContext → Effect → Bool
draws_on l tile x eff.Quiet = false
draws_on l tile x (eff.Refused fault) = false
draws_on l tile x (eff.Block block) = meets_tile l x.state (eff.Block block) tile
draws_on l tile x (eff.Clear mask) = meets_tile l x.state (eff.Clear mask) tile
draws_on l tile x (eff.Shared part) = false
draws_on l tile x (eff.Sync op) = false

abbrev parcel : ℕ → List ElementSet → Act → Parcel
parcel place sets what = record { place = place; sets = sets; act = what }

-- the parcel of what a command at a place does, where it gives one: for a tile that was told this
abbrev pub parcel_of : Layout → ℕ → (ℕ → ElementValue) → ClientContext → ℕ → Effect → List Parcel
parcel_of l tile values x place eff.Quiet = []
parcel_of l tile values x place (eff.Refused fault) = []
parcel_of l tile values x place (eff.Block block) =
    if draws_on l tile x (eff.Block block) then parcel place (sets_for values x true) (act.Draw block) ∷ [] else []
parcel_of l tile values x place (eff.Clear mask) =
    if draws_on l tile x (eff.Clear mask) then parcel place (sets_for values x false) (act.Clear mask) ∷ [] else []
parcel_of l tile values x place (eff.Shared part) = parcel place [] (act.Shared part) ∷ []
parcel_of l tile values x place (eff.Sync op) = parcel place [] (act.Sync op) ∷ []

-- what a client's command at a place gives to a tile, where these parcels came before
abbrev pub parcels_at : Scene → Layout → ℕ → ℕ → ℕ → List Parcel → List Parcel
parcels_at scene l client tile place earlier =
    parcel_of l tile (told scene.decl earlier) (context_after scene client place) place (effect_at scene client place)

-- the parcels of a client's first n commands to a tile
unfoldable pub parcels_before : Scene → Layout → ℕ → ℕ → ℕ → List Parcel
parcels_before scene l client tile zero = []
parcels_before scene l client tile (suc n) =
    let earlier = parcels_before scene l client tile n in
    earlier ++ parcels_at scene l client tile n earlier

abbrev pub end_parcel : ℕ → Parcel
end_parcel place = parcel place [] act.End

-- all parcels of a client to a tile: those of its commands at rising places, and then End
unfoldable pub parcels_of : Scene → Layout → ℕ → ℕ → List Parcel
parcels_of scene l client tile =
    let n = length (stream_of scene client) in
    parcels_before scene l client tile n ++ end_parcel n ∷ []

-- ---- what a parcel asks of its tile

-- the act does what this effect does; End does nothing
abbrev pub effect_by : Act → Effect
effect_by (act.Draw block) = eff.Block block
effect_by (act.Clear mask) = eff.Clear mask
effect_by (act.Shared part) = eff.Shared part
effect_by (act.Sync op) = eff.Sync op
effect_by act.End = eff.Quiet

-- the act is the client's last
abbrev pub is_end : Act → Bool
is_end (act.Draw block) = false
is_end (act.Clear mask) = false
is_end (act.Shared part) = false
is_end (act.Sync op) = false
is_end act.End = true

abbrev pub set_count : List Parcel → ℕ
set_count parcels = length (flat_map (λ (p : Parcel). p.sets) parcels)

-- What a tile was told along the parcels of a client.
use Rattle.std.specs.Prelude.{◌≡◌, ℕ, ◌<◌, false, true, List, [], ◌∷◌, ◌++◌}
use Rattle.rc_base.specs.Cluster.Looks.{is_pending}
use Rattle.rc_base.specs.Cluster.Parcels.{told, parcels_before}
use Rattle.rc_base.specs.Contexts.Context.{ClientContext}
use Rattle.rc_base.specs.Contexts.Elements.{default_value, element_count, same_value, value_in}
use Rattle.rc_base.specs.Contexts.Issue.{context_after}
use Rattle.rc_base.specs.declared.scene.Decl.{Decl}
use Rattle.rc_base.specs.declared.scene.Scene.{Scene}
use Rattle.rc_base.specs.declared.window.Layout.{Layout}
use Rattle.rc_base.specs.declared.state.ElementValue.{ElementValue}
use Rattle.rc_base.specs.declared.state.Parcel.{Parcel}
use Rattle.gl_context.specs.Valid.{IsValidContext}
use Rattle.state_update.specs.Knowledge.{HasBoundTexture, Knows, Tracked, after_sets}

-- before the first parcel
abbrev pub TilesBeginWithDefaults : Type 0
TilesBeginWithDefaults = (tracker : Tracked) (tile : ℕ) (d : Decl) → Knows tracker tile (default_value d) → Knows tracker tile (told d [])

-- after one more: what is known of the values after its sets is known of what its tile was told
abbrev pub ParcelsTellTheirSets : Type 0
ParcelsTellTheirSets =
    (tracker : Tracked) (tile : ℕ) (d : Decl) (earlier : List Parcel) (p : Parcel) → Knows tracker tile (after_sets (told d earlier) p.sets)
    → Knows tracker tile (told d (earlier ++ p ∷ []))

-- a parcel without sets tells nothing
abbrev pub ParcelsWithoutSetsTellNothing : Type 0
ParcelsWithoutSetsTellNothing =
    (tracker : Tracked) (tile : ℕ) (d : Decl) (earlier : List Parcel) (p : Parcel) → p.sets ≡ [] → Knows tracker tile (told d earlier)
    → Knows tracker tile (told d (earlier ++ p ∷ []))

-- every context of a stream may be told
abbrev pub ValidContextsHaveTheirTexture : Type 0
ValidContextsHaveTheirTexture = (d : Decl) (x : ClientContext) → IsValidContext d x → HasBoundTexture x

-- an element that isn't pending to a tile has the value that this tile was last told
abbrev pub ElementsNotPendingWereTold : Type 0
ElementsNotPendingWereTold =
    (scene : Scene) (l : Layout) (client tile place e : ℕ) → e < element_count → is_pending scene l client tile place e ≡ false
    → same_value (told scene.decl (parcels_before scene l client tile place) e) (value_in (context_after scene client place) e) ≡ true

-- all values that are known of a tile are alike
abbrev pub KnownValuesAreAlike : Type 0
KnownValuesAreAlike =
    (t : Tracked) (tile : ℕ) (v w : ℕ → ElementValue) → Knows t tile v → Knows t tile w
    → (e : ℕ) → e < element_count → (z : ElementValue) → same_value (v e) z ≡ same_value (w e) z

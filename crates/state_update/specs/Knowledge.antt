-- What a tracker knows of the elements that a tile was told, and what a parcel adds to it.
use Rattle.std.specs.Prelude.{◌≡◌, ℕ, ◌<◌, ◌≤◌, ◌==◌, ◌&&◌, ◌||◌, not, nat_eq, nat_lt, Bool, true, false, List, [], ◌∷◌, ◌++◌, Option, Some, None, drop, fold, is_some, length, replicate, slice_get, slice_index, slice_index_or, unwrap_or, if◌then◌else◌}
use Rattle.std.specs.List.{flat_map, list_any, range_with_len}
use Rattle.std.specs.Option.{option_map_or}
use Rattle.dirty_bits.specs.Bits.{is_dirty, is_group_dirty}
use Rattle.element_table.specs.Groups.{group_start}
use Rattle.rc_base.specs.Lists.{at_name, with_name}
use Rattle.rc_base.specs.Contexts.Context.{ClientContext, default_state, private_count, private_image, edit_of}
use Rattle.rc_base.specs.Contexts.Elements.{values_of, value_in, scalar_count, element_count, group_sizes, image_element, image_value, no_image, same_value}
use Rattle.rc_base.specs.Cluster.Looks.{sizes_with}
use Rattle.rc_base.specs.Cluster.Parcels.{examined, told_by}
use Rattle.rc_base.specs.Drawing.Texel.{bound_kind, bound_name}
use Rattle.rc_base.specs.declared.scene.Decl.{Decl}
use Rattle.rc_base.specs.declared.state.State.{State}
use Rattle.rc_base.specs.declared.state.ElementSet.{ElementSet}
use Rattle.rc_base.specs.declared.state.ElementValue.{ElementValue}
use Rattle.rc_base.specs.declared.state.ElementValue.TheVariants as val
use Rattle.state_update.specs.declared.examination.Examination.{Examination}
use Rattle.state_update.specs.declared.told.Told.{Told}

-- ---- what a tracker knows

-- a scalar element's value in a state, by its number
abbrev pub scalar_value : State → ℕ → ElementValue
scalar_value s e = slice_index_or (values_of s) e no_image

-- the edit number of a private image that was told, by the texture's name from 1
abbrev pub edit_told : Told → ℕ → ℕ
edit_told t name = unwrap_or (at_name t.edits name) 0

-- the value is an image with this edit number
abbrev pub IsImageOf : ElementValue → ℕ → Type 0
IsImageOf (val.Image k w h texels) edit = k ≡ edit
IsImageOf v edit = ⊥

-- what is kept of a tile agrees with these values, which the tile was told: each scalar element is the same, and each image has the edit number
pub record Agrees (kept : Told) (values : ℕ → ElementValue) : Type 0 where
  pub names : length kept.edits ≡ private_count
  pub scalars : (e : ℕ) → e < scalar_count → values e ≡ scalar_value kept.state e
  pub images : (name : ℕ) → 0 < name → name ≤ private_count → IsImageOf (values (image_element name)) (edit_told kept name)

-- what a tracker keeps: what each tile was told, and the bits of the elements that are pending to tiles
pub record Tracked : Type 0 where
  pub told : List Told
  pub bits : List ℕ

-- the element is pending to the tile: it was noted since the tile was last told of it
abbrev pub pending : Tracked → ℕ → ℕ → Bool
pending t tile e = is_dirty t.bits e tile

-- the tracker knows that the tile was told these values
pub record Knows (tracker : Tracked) (tile : ℕ) (values : ℕ → ElementValue) : Type 0 where
  pub kept : Told
  pub is : slice_get tracker.told tile ≡ Some kept
  pub agrees : Agrees kept values

-- nothing is to be told that isn't pending: each other element is, in the context, what the tile was told
abbrev pub IsSettled : Tracked → ℕ → ClientContext → Type 0
IsSettled t tile x =
    (values : ℕ → ElementValue) → Knows t tile values
    → (e : ℕ) → e < element_count → pending t tile e ≡ false → same_value (values e) (value_in x e) ≡ true

-- the values that a tile was told after these sets
abbrev pub after_sets : (ℕ → ElementValue) → List ElementSet → ℕ → ElementValue
after_sets values sets e = fold (told_by e) (values e) sets

-- ---- what a parcel examines

-- where a private texture is bound, it is one that exists
abbrev pub HasBoundTexture : ClientContext → Type 0
HasBoundTexture x = bound_kind x.state ≡ 0 → (0 < bound_name x.state) × (bound_name x.state ≤ private_count)

-- the private texture that a draw samples, where it has an image
abbrev pub image_examined : ClientContext → Bool → Option ℕ
image_examined x draws =
    if ((draws && x.state.texture_on) && bound_kind x.state == 0) && is_some (private_image x (bound_name x.state))
    then Some (bound_name x.state) else None

abbrev pub IsPrivateName : Option ℕ → Type 0
IsPrivateName None = Unit {0}
IsPrivateName (Some name) = (0 < name) × (name ≤ private_count)

-- its image with the edit number
abbrev pub image_of : ClientContext → ℕ → ElementValue
image_of x name = option_map_or (image_value (edit_of x name)) (private_image x name) no_image

-- ---- the sets of a parcel, and what is kept of a tile after it

abbrev pub scalar_set : State → State → ℕ → List ElementSet
scalar_set told now e =
    if same_value (scalar_value told e) (scalar_value now e) then [] else record { element = e; value = scalar_value now e } ∷ []

abbrev pub image_set : Told → ClientContext → ℕ → List ElementSet
image_set t x name =
    if edit_told t name == edit_of x name then [] else record { element = image_element name; value = image_of x name } ∷ []

abbrev pub image_sets : Told → ClientContext → Option ℕ → List ElementSet
image_sets t x image = option_map_or (image_set t x) image []

-- those of one element: of a scalar one, or of the image that is examined
abbrev pub element_sets : Told → ClientContext → Option ℕ → ℕ → List ElementSet
element_sets t x image e =
    if nat_lt e scalar_count then scalar_set t.state x.state e
    else option_map_or (λ (name : ℕ). if image_element name == e then image_set t x name else []) image []

unfoldable pub sets_by : Told → ClientContext → Option ℕ → List ElementSet
sets_by t x image = flat_map (scalar_set t.state x.state) (range_with_len 0 scalar_count) ++ image_sets t x image

abbrev pub told_after : Told → ClientContext → Option ℕ → Told
told_after t x image = record {
  state = x.state;
  edits = option_map_or (λ (name : ℕ). with_name t.edits name (edit_of x name)) image t.edits;
}

-- ---- by dirty bits

-- the parcel examines the element
abbrev pub is_examined : Option ℕ → ℕ → Bool
is_examined image e = nat_lt e scalar_count || option_map_or (λ (name : ℕ). e == image_element name) image false

-- no element that is clean for the tile is set
abbrev pub CleanElementsAreNotSet : List ℕ → ℕ → Told → ClientContext → Option ℕ → Type 0
CleanElementsAreNotSet bits tile t x image = (e : ℕ) → e < element_count → is_dirty bits e tile ≡ false → element_sets t x image e ≡ []

-- what an examination adds for an element
abbrev pub sets_of : Examination → ℕ → List ElementSet
sets_of x = element_sets x.told.now x.context.now x.image

-- for the elements of a group
abbrev pub group_sets : Examination → ℕ → List ElementSet
group_sets x g = flat_map (sets_of x) (range_with_len (group_start g) (slice_index group_sizes g))

-- and in all
abbrev pub all_sets : Examination → List ElementSet
all_sets x = sets_by x.told.now x.context.now x.image

-- it adds nothing for an element that is clean for its tile
abbrev pub AddsDirtyAlone : Examination → Type 0
AddsDirtyAlone x = CleanElementsAreNotSet x.dirty.now x.tile x.told.now x.context.now x.image

-- the same, for one of 32 tiles, and the texture whose image it examines is a private one
pub record IsSoundExamination (x : Examination) : Type 0 where
  pub named : IsPrivateName x.image
  pub server : x.tile < 32
  pub clean : AddsDirtyAlone x

-- the looks at the elements of a group
abbrev pub element_looks : List ℕ → ℕ → ℕ → ℕ
element_looks bits tile g = if is_group_dirty bits g tile then slice_index group_sizes g else 0

-- and at those of the groups from g on
unfoldable pub looks_from : List ℕ → ℕ → ℕ → ℕ
looks_from bits tile g = sizes_with (λ e. is_dirty bits e tile) (group_start g) (drop g group_sizes)

-- ---- what a tracker does

-- what was examined is no longer pending to the tile, and all else as before
abbrev pub AreExaminedTold : ℕ → ClientContext → Bool → Tracked → Tracked → Type 0
AreExaminedTold tile x draws old new =
    (t e : ℕ) → t < 32 → pending new t e ≡ (pending old t e && not (t == tile && list_any (nat_eq e) (examined x draws)))

-- ---- at first

abbrev pub first_told : Decl → Told
first_told d = record { state = default_state d; edits = replicate private_count 0 }

-- What is kept of a client so that a tile can draw with it.
use Rattle.std.specs.Prelude.{◌≡◌, ℕ, ◌<◌, Bool, true, List, Option, Some, slice_get, slice_index}
use Rattle.std.specs.List.{list_all}
use Rattle.rc_base.specs.Pictures.{Picture}
use Rattle.rc_base.specs.declared.scene.Decl.{Decl}
use Rattle.rc_base.specs.declared.state.ElementSet.{ElementSet}
use Rattle.rc_base.specs.declared.state.ElementValue.{ElementValue}
use Rattle.order_model.specs.Board.{Kept}
use Rattle.textures.specs.Images.{texture_image}
use Rattle.tile_model.specs.Boards.{image_by}
use Rattle.element_table.specs.Values.{is_binding, is_depth, is_value_of}
use Rattle.tile_server.specs.declared.kept.KeptClient.{KeptClient}

abbrev pub kept_of : KeptClient → Kept
kept_of k = record { state = k.state; image = texture_image k.images }

-- With what is kept a draw finds texels and a Clear a depth: no image has a side of 0, the clear depth lies in its range, and the texture that is
-- bound can be bound.
pub record IsFit (d : Decl) (k : Kept) : Type 0 where
  pub images : (name : ℕ) (p : Picture) → 0 < name → k.image name ≡ Some p → (0 < p.w) × (0 < p.h)
  pub depth : is_depth k.state.clear_depth ≡ true
  pub binding : is_binding d (slice_index k.state.binding 0) (slice_index k.state.binding 1) ≡ true

-- so is what is kept of each client
pub record AreFit (d : Decl) (kept : List KeptClient) : Type 0 where
  pub each : (client : ℕ) (k : KeptClient) → slice_get kept client ≡ Some k → IsFit d (kept_of k)

-- ---- sets

-- the set is of an element to a value that it can have
abbrev pub is_set_value : Decl → ElementSet → Bool
is_set_value d set = is_value_of d set.element set.value

-- with some declaration it is a value that the element can have
pub record IsSomeValue (element : ℕ) (value : ElementValue) : Type 0 where
  pub decl : Decl
  pub is : is_value_of decl element value ≡ true

-- so is that of each set, with one declaration
pub record AreSomeValues (sets : List ElementSet) : Type 0 where
  pub decl : Decl
  pub are : list_all (is_set_value decl) sets ≡ true

-- a set of the element to the value was made in the images of the private textures
pub record HasImage (element : ℕ) (value : ElementValue) (before now : List (Option Picture)) : Type 0 where
  pub images : (name : ℕ) → 0 < name
      → texture_image now name ≡ image_by name (texture_image before name) (record { element = element; value = value })

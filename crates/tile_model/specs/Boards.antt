-- What a tile's board is at first, and after an item.
use Rattle.std.specs.Prelude.{◌≡◌, ℕ, ◌<◌, ◌==◌, ◌&&◌, not, Bool, true, false, List, [], fold, Option, None, if◌then◌else◌, pos, slice_index_or}
use Rattle.rc_base.specs.Pictures.{Picture}
use Rattle.rc_base.specs.Contexts.Elements.{values_of, scalar_count, image_element, no_image}
use Rattle.rc_base.specs.Drawing.PixelStep.{effect_step}
use Rattle.rc_base.specs.Contexts.Context.{default_state}
use Rattle.rc_base.specs.Drawing.Serial.{stored, blank_textures, blank_pixel}
use Rattle.rc_base.specs.Drawing.Texel.{shared_picture}
use Rattle.rc_base.specs.Cluster.Parcels.{told_by, effect_by}
use Rattle.rc_base.specs.Cluster.Tiles.{tile_pixels}
use Rattle.rc_base.specs.declared.scene.Decl.{Decl}
use Rattle.rc_base.specs.declared.state.ElementSet.{ElementSet}
use Rattle.rc_base.specs.declared.state.Parcel.{Parcel}
use Rattle.rc_base.specs.declared.window.Layout.{Layout}
use Rattle.order_model.specs.Board.{Kept, Board, picture_in}
use Rattle.order_model.specs.Standing.{Progress}
use Rattle.tile_model.specs.Givable.{is_givable}
use Rattle.tile_model.specs.Items.{Item}
use Rattle.tile_model.specs.Items.Item.{Nothing, Due, Granted, NoMore, Sent}
use Rattle.tile_model.specs.Acts.{is_work}

-- ---- a new board

-- the defaults of each client and no images, textures of zeros, and a blank buffer
pub record IsNewBoard (decl : Decl) (l : Layout) (tile : ℕ) (b : Board) : Type 0 where
  pub state : (client : ℕ) → (b.kept client).state ≡ default_state decl
  pub image : (client name : ℕ) → 0 < name → (b.kept client).image name ≡ None
  pub shared : (name : ℕ) → b.shared name ≡ blank_textures (record { decl = decl; streams = [] }) name
  pub pixel : (x y : ℕ) → tile_pixels l tile x y ≡ true → b.pixel (pos x) (pos y) ≡ blank_pixel

-- ---- sets

-- an image after a set: the picture of the set's value where it is of this private texture
abbrev pub image_by : ℕ → Option Picture → ElementSet → Option Picture
image_by name image set = if set.element == image_element name then picture_in set.value else image

-- each element has the value that was set last, else the one before
pub record HasSets (sets : List ElementSet) (before now : Kept) : Type 0 where
  pub values : (e : ℕ) → e < scalar_count
      → slice_index_or (values_of now.state) e no_image ≡ fold (told_by e) (slice_index_or (values_of before.state) e no_image) sets
  pub images : (name : ℕ) → 0 < name → now.image name ≡ fold (image_by name) (before.image name) sets

-- ---- parcels

-- A client's parcel is carried out in a tile: its sets are made in what is kept of the client, and with that it draws, clears or writes a shared
-- texture. What is kept of other clients is as it was.
pub record IsCarriedOut (decl : Decl) (l : Layout) (client tile : ℕ) (parcel : Parcel) (before now : Board) : Type 0 where
  pub kept : HasSets parcel.sets (before.kept client) (now.kept client)
  pub others : (other : ℕ) → (other == client) ≡ false → now.kept other ≡ before.kept other
  pub shared : (name : ℕ) → now.shared name ≡ stored decl.shared (effect_by parcel.act) before.shared name
  pub pixel : (x y : ℕ) → tile_pixels l tile x y ≡ true
      → now.pixel (pos x) (pos y)
      ≡ effect_step (now.kept client).state (now.kept client).image (shared_picture decl.shared before.shared) (effect_by parcel.act)
      (pos x) (pos y) (before.pixel (pos x) (pos y))

-- the parcel is work of a client that isn't held, and one that a scene can give
abbrev pub is_carried_out : Decl → Progress → ℕ → Parcel → Bool
is_carried_out decl p client parcel = (is_work parcel.act && not (p.held client)) && is_givable decl parcel

-- what an item makes of the board: such a parcel is carried out, and all else leaves the board as it is
abbrev pub IsDrawn : Decl → Layout → ℕ → Progress → Item → Board → Board → Type 0
IsDrawn decl l tile p Nothing before now = now ≡ before
IsDrawn decl l tile p (Due e) before now = now ≡ before
IsDrawn decl l tile p (Granted e) before now = now ≡ before
IsDrawn decl l tile p NoMore before now = now ≡ before
IsDrawn decl l tile p (Sent client parcel) before now =
    (is_carried_out decl p client parcel ≡ true → IsCarriedOut decl l client tile parcel before now)
    × (is_carried_out decl p client parcel ≡ false → now ≡ before)

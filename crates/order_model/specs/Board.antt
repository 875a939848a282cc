-- What a tile keeps for drawing, and when that is right for a scene, whatever the tile is made of.
use Rattle.std.specs.Prelude.{◌≡◌, ℕ, ◌<◌, ◌==◌, true, List, [], Option, Some, None, take, slice_index_or, ℤ, pos, if◌then◌else◌}
use Rattle.rc_base.specs.Pictures.{Picture}
use Rattle.rc_base.specs.Contexts.Elements.{values_of, scalar_count, image_element, no_image}
use Rattle.rc_base.specs.Drawing.Serial.{painted, textures_after}
use Rattle.rc_base.specs.Drawing.Texel.{SharedTexels}
use Rattle.rc_base.specs.Orders.Order.{entries_of}
use Rattle.rc_base.specs.Orders.Journal.{start}
use Rattle.rc_base.specs.Orders.Sync.{sync_lists_of}
use Rattle.rc_base.specs.Cluster.Tiles.{tile_pixels}
use Rattle.rc_base.specs.Cluster.Parcels.{told, parcels_of}
use Rattle.rc_base.specs.declared.scene.Scene.{Scene}
use Rattle.rc_base.specs.declared.state.ElementValue.{ElementValue}
use Rattle.rc_base.specs.declared.state.ElementValue.TheVariants as val
use Rattle.rc_base.specs.declared.state.State.{State}
use Rattle.rc_base.specs.declared.sync.Entry.{Entry}
use Rattle.rc_base.specs.declared.sync.Name.{Name}
use Rattle.rc_base.specs.declared.window.Layout.{Layout}
use Rattle.rc_base.specs.declared.window.Pixel.{Pixel}
use Rattle.order_model.specs.Log.{logged}
use Rattle.order_model.specs.Sent.{jobs_of}
use Rattle.order_model.specs.Standing.{Progress, IsUnderWay, cursor_of}

-- ---- what is kept

-- of one client: its scalar elements, and the images of its private textures, by their names from 1
pub record Kept : Type 0 where
  pub state : State
  pub image : ℕ → Option Picture

-- of all clients, with the texels of the shared textures and the buffer's pixels
pub record Board : Type 0 where
  pub kept : ℕ → Kept
  pub shared : SharedTexels
  pub pixel : ℤ → ℤ → Pixel

-- ---- when it is right

-- the picture of an image's value; edit number 0 is that of no image
abbrev pub picture_in : ElementValue → Option Picture
picture_in (val.Image edit w h texels) = if edit == 0 then None else Some (record { w = w; h = h; texels = texels })
picture_in (val.Matrix m) = None
picture_in (val.Area area) = None
picture_in (val.Range range) = None
picture_in (val.Flag flag) = None
picture_in (val.Code code) = None
picture_in (val.Pair pair) = None
picture_in (val.Mask mask) = None
picture_in (val.Color color) = None
picture_in (val.Depth depth) = None
picture_in (val.Mode mode) = None

-- what is kept of a client after so many of its parcels: what these told the tile
pub record IsKeptOf (scene : Scene) (l : Layout) (client tile count : ℕ) (k : Kept) : Type 0 where
  pub values : (e : ℕ) → e < scalar_count
      → slice_index_or (values_of k.state) e no_image ≡ told scene.decl (take count (parcels_of scene l client tile)) e
  pub images : (name : ℕ) → 0 < name → k.image name ≡ picture_in (told scene.decl (take count (parcels_of scene l client tile)) (image_element name))

-- A tile's board is right for a scene, where so many parcels of each client are carried out and these names are added: what it keeps of each client
-- is what the parcels before the cursor told it, its shared textures are those that the names left, and each of its pixels is what the names, all
-- shown, made of it.
pub record IsBoardOf (scene : Scene) (l : Layout) (tile : ℕ) (cursor : ℕ → ℕ) (names : List Name) (b : Board) : Type 0 where
  pub kept : (client : ℕ) → IsKeptOf scene l client tile (cursor client) (b.kept client)
  pub shared : (name : ℕ) → b.shared name ≡ textures_after scene names name
  pub pixel : (x y : ℕ) → tile_pixels l tile x y ≡ true → b.pixel (pos x) (pos y) ≡ (painted scene (λ n. true) (pos x) (pos y) names).pixel

-- A tile stands for a scene and a journal: its progress is right for them, and so is its board for what its log has carried out and the names that
-- the log has added.
pub record StandsFor (scene : Scene) (l : Layout) (tile : ℕ) (journal : List Entry) (p : Progress) (b : Board) : Type 0 where
  pub progress : IsUnderWay (sync_lists_of scene) journal (λ client. jobs_of scene l client tile) p
  pub board : IsBoardOf scene l tile (cursor_of (entries_of (sync_lists_of scene) journal) p.log)
      (logged (sync_lists_of scene) (start (sync_lists_of scene)) journal p.log []) b

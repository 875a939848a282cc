-- Laws of tiles' cores.
use Rattle.std.specs.Prelude.{◌≡◌, ℕ, ◌+◌, ◌<◌, ◌^◌, true, false, List, ◌∷◌, ◌++◌, length, Some, slice_get, pos}
use Rattle.rc_base.specs.Cluster.Tiles.{tile_pixels, tile_rectangle}
use Rattle.rc_base.specs.Drawing.Serial.{frame_pixel}
use Rattle.rc_base.specs.Orders.Journal.{IsLegal}
use Rattle.rc_base.specs.Orders.Sync.{sync_lists_of}
use Rattle.rc_base.specs.declared.cluster.TilePart.{TilePart}
use Rattle.rc_base.specs.declared.scene.Scene.{Scene}
use Rattle.rc_base.specs.declared.sync.Entry.{Entry}
use Rattle.rc_base.specs.declared.sync.Name.{Name}
use Rattle.rc_base.specs.declared.window.Layout.{Layout}
use Rattle.draw_device.specs.Devices.{pixel_index, rect_size}
use Rattle.order_model.specs.Board.{StandsFor}
use Rattle.order_model.specs.Log.{Replays, recorded_order}
use Rattle.order_model.specs.Sent.{jobs_of}
use Rattle.order_model.specs.Standing.{Progress, new_progress, IsDone}
use Rattle.order_model.specs.declared.record.LogEntry.{LogEntry}
use Rattle.order_model.specs.declared.record.LogEntry.TheVariants.{Performed}
use Rattle.tile_model.specs.Boards.{IsNewBoard}
use Rattle.tile_model.specs.Items.{after_item, shown_frames, IsItemOf}
use Rattle.tile_model.specs.Scenes.{HasSides, IsInRange}
use Rattle.tile_server.specs.Cores.{board_of, decl_of, is_short, layout_of, tile_of, IsProgressOf, IsTileStep}
use Rattle.tile_server.specs.Deeds.{item_of}
use Rattle.tile_server.specs.declared.deed.TileDeed.{TileDeed}
use Rattle.tile_server.specs.declared.deed.TileDeed.TheVariants.{Shows, Finishes}
use Rattle.tile_server.specs.declared.tile_core.TileCore.{TileCore}

-- The core is that of a tile of a scene, isn't short, stands for so much progress, and is right in this for the scene and a journal.
pub record IsTileOf (scene : Scene) (l : Layout) (this_tile : ℕ) (journal : List Entry) (core : TileCore) (p : Progress) : Type 0 where
  pub decl : decl_of core ≡ scene.decl
  pub layout : layout_of core ≡ l
  pub tile : tile_of core ≡ this_tile
  pub ample : is_short core ≡ false
  pub progress : IsProgressOf core p
  pub stands : StandsFor scene l this_tile journal p (board_of core)

-- a new core stands for every scene with its declaration and number of clients, and for every journal
abbrev pub NewCoresStand : Type 0
NewCoresStand =
    (scene : Scene) (l : Layout) (tile : ℕ) (journal : List Entry) (core : TileCore)
    → decl_of core ≡ scene.decl → layout_of core ≡ l → tile_of core ≡ tile → is_short core ≡ false
    → IsProgressOf core (new_progress (length scene.streams)) → IsNewBoard scene.decl l tile (board_of core)
    → IsTileOf scene l tile journal core (new_progress (length scene.streams))

-- A core that stands for a scene and a legal journal stands for them after each step in which memory doesn't lack and whose item is theirs.
abbrev pub StepsKeepStanding : Type 0
StepsKeepStanding =
    (scene : Scene) (l : Layout) (tile : ℕ) (journal : List Entry) (core : TileCore) (p : Progress) (deed : TileDeed) (later : TileCore)
    → IsInRange scene → HasSides scene.decl → IsLegal (sync_lists_of scene) journal → IsTileOf scene l tile journal core p
    → IsTileStep core deed later → is_short later ≡ false → IsItemOf scene l tile journal p (item_of deed)
    → IsTileOf scene l tile journal later (after_item p (item_of deed))

-- ---- frames

-- the part has a tile's pixels of a frame of an order, row by row from the lowest, each row from the left
pub record IsFramePart (scene : Scene) (l : Layout) (order : List Name) (this_tile this_frame : ℕ) (part : TilePart) : Type 0 where
  pub tile : part.tile ≡ this_tile
  pub frame : part.frame ≡ this_frame
  pub count : length part.pixels ≡ rect_size (tile_rectangle l this_tile)
  pub pixel : (x y : ℕ) → tile_pixels l this_tile x y ≡ true
      → slice_get part.pixels (pixel_index (tile_rectangle l this_tile) (pos x) (pos y)) ≡ Some (frame_pixel scene order this_frame (pos x) (pos y))

-- What such a core shows is its part of the next frame, in the order that the log records at last, whatever the log goes on with, as long as the
-- number of the frame has 32 bits.
abbrev pub ShownPartsAreFrames : Type 0
ShownPartsAreFrames =
    (scene : Scene) (l : Layout) (tile : ℕ) (journal : List Entry) (core : TileCore) (p : Progress)
    (part : TilePart) (later : TileCore) (more : List LogEntry)
    → IsLegal (sync_lists_of scene) journal → IsTileOf scene l tile journal core p → IsTileStep core (Shows part) later
    → Replays (sync_lists_of scene) journal (λ client. jobs_of scene l client tile) (p.log ++ Performed ∷ more) → shown_frames p + 1 < 2 ^ 32
    → IsFramePart scene l (recorded_order (sync_lists_of scene) journal (p.log ++ Performed ∷ more)) tile (shown_frames p + 1) part

-- ---- the end

-- Such a core that finds nothing left to do is done, where it learnt all of the journal.
abbrev pub FinishedCoresAreDone : Type 0
FinishedCoresAreDone =
    (scene : Scene) (l : Layout) (tile : ℕ) (journal : List Entry) (core : TileCore) (p : Progress) (later : TileCore)
    → IsTileOf scene l tile journal core p → IsTileStep core Finishes later → p.learnt ≡ journal → IsDone (sync_lists_of scene) journal p

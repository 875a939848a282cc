-- Laws of writers of frames, and of the frames of scenes within the limits.
use Rattle.std.specs.Prelude.{◌≡◌, ℕ, ◌<◌, List, [], None}
use Rattle.rc_base.specs.Cluster.Tiles.{tile_count}
use Rattle.rc_base.specs.Drawing.Images.{Pixels}
use Rattle.rc_base.specs.Formats.Limits.{limit_of}
use Rattle.rc_base.specs.Orders.Journal.{IsLegal}
use Rattle.rc_base.specs.Orders.Sync.{sync_lists_of}
use Rattle.rc_base.specs.Outside.Ends.{Used, IsCalm, Took}
use Rattle.rc_base.specs.declared.cluster.TilePart.{TilePart}
use Rattle.rc_base.specs.declared.scene.Scene.{Scene}
use Rattle.rc_base.specs.declared.sync.Entry.{Entry}
use Rattle.rc_base.specs.declared.window.Layout.{Layout}
use Rattle.order_model.specs.Report.{frame_count}
use Rattle.frame_out.specs.Frames.{window_images}
use Rattle.frame_out.specs.OnTheWay.{IsNewWriter, IsOnTheWay}
use Rattle.frame_out.specs.Writing.{AreWritable}
use Rattle.frame_out.specs.declared.on_the_way.FrameWriter.{FrameWriter}

-- the layout is one of the scene's window
pub record HasWindow (scene : Scene) (l : Layout) : Type 0 where
  pub width : l.width ≡ scene.decl.width
  pub height : l.height ≡ scene.decl.height

-- A scene within the limits has frames that can be written, whoever drew them: one for each Swap of a legal journal.
abbrev pub FramesOfScenesAreWritable : Type 0
FramesOfScenesAreWritable =
    (scene : Scene) (l : Layout) (journal : List Entry) (pixels : ℕ → Pixels) → limit_of scene ≡ None → HasWindow scene l
    → IsLegal (sync_lists_of scene) journal → AreWritable (window_images l pixels (frame_count journal))

-- a new writer is on its way, with nothing taken and nothing written
abbrev pub NewWritersAreOnTheWay : Type 0
NewWritersAreOnTheWay =
    (l : Layout) (image : Used) (took : ℕ → List TilePart) (w : FrameWriter) → IsNewWriter l w → Took image [] → IsCalm image
    → ((tile : ℕ) → tile < tile_count l → took tile ≡ []) → IsOnTheWay l image took w

-- Laws of the frames of runs: their parts, their images, and the text that is written of them.
use Rattle.std.specs.Prelude.{◌≡◌, ℕ, ◌<◌, List, None}
use Rattle.rc_base.specs.Cluster.Tiles.{tile_count}
use Rattle.rc_base.specs.Formats.Netpbm.{p6_texts}
use Rattle.rc_base.specs.Lists.{IsFront}
use Rattle.rc_base.specs.Outside.Ends.{Used}
use Rattle.rc_base.specs.declared.cluster.TilePart.{TilePart}
use Rattle.rc_base.specs.declared.scene.Scene.{Scene}
use Rattle.rc_base.specs.declared.window.Layout.{Layout}
use Rattle.order_model.specs.Report.{frame_count, image_text_of, recorded_pixel}
use Rattle.order_model.specs.declared.record.Record.{Record}
use Rattle.assembler.specs.Places.{in_place}
use Rattle.assembler.specs.Assembled.{places_of}
use Rattle.run_record.specs.Told.{AreFrameParts, HaveFrames}
use Rattle.frame_out.specs.Frames.{frame_total, window_images, AreFrames, ShowFrames}
use Rattle.frame_out.specs.OnTheWay.{HasWritten}
use Rattle.frame_out.specs.Writing.{AreWritable, IsCounted}
use Rattle.frame_out.specs.declared.on_the_way.FrameWriter.{FrameWriter}
use Rattle.frame_out.specs.Laws.{HasWindow}

-- there is a part of each tile for each frame of the record, with that tile's pixels in the order that its log records
pub record ShowRecord (scene : Scene) (l : Layout) (kept : Record) (parts : List TilePart) : Type 0 where
  pub frames : AreFrames l parts
  pub shown : ShowFrames l parts (recorded_pixel scene l kept)
  pub count : frame_total l parts ≡ frame_count kept.journal

-- so the parts of a whole run
abbrev pub WholeRunsShowFrames : Type 0
WholeRunsShowFrames =
    (scene : Scene) (l : Layout) (kept : Record) (parts : List TilePart) → AreFrameParts scene l kept parts → 0 < tile_count l → ShowRecord scene l kept parts

-- the texts of a record's frames are its image text
abbrev pub RecordedFramesHaveTheImageText : Type 0
RecordedFramesHaveTheImageText =
    (scene : Scene) (l : Layout) (kept : Record) → HasWindow scene l
    → p6_texts (window_images l (recorded_pixel scene l kept) (frame_count kept.journal)) ≡ image_text_of scene l kept

-- A writer that was given fronts of the parts of a whole run, and found a tile's lane at its end, has written the record's image text: all of it, or up to
-- the image's fault. Its bytes are counted.
abbrev pub WholeRunsAreWritten : Type 0
WholeRunsAreWritten =
    (scene : Scene) (l : Layout) (kept : Record) (shown took : ℕ → List TilePart) (image : Used) (w : FrameWriter)
    → HaveFrames scene l kept shown → HasWindow scene l → 0 < tile_count l
    → AreWritable (window_images l (recorded_pixel scene l kept) (frame_count kept.journal))
    → HasWritten l image took w → ((tile : ℕ) → tile < tile_count l → IsFront (took tile) (shown tile))
    → (tile : ℕ) → tile < tile_count l → in_place (places_of w.parts) tile ≡ None → took tile ≡ shown tile
    → IsCounted image (image_text_of scene l kept) w.written

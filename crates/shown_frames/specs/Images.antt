-- What an image was given of what tiles have shown.
use Rattle.std.specs.Prelude.{ℕ, ◌<◌, List}
use Rattle.rc_base.specs.Cluster.Tiles.{tile_count}
use Rattle.rc_base.specs.Formats.Within.{IsLayoutFor}
use Rattle.rc_base.specs.Lists.{IsFront}
use Rattle.rc_base.specs.Outside.Ends.{Used, TookFront}
use Rattle.rc_base.specs.declared.cluster.TilePart.{TilePart}
use Rattle.rc_base.specs.declared.scene.Scene.{Scene}
use Rattle.rc_base.specs.declared.window.Layout.{Layout}
use Rattle.order_model.specs.Report.{image_text_of}
use Rattle.order_model.specs.Sent.{IsRecordOf}
use Rattle.order_model.specs.declared.record.Record.{Record}
use Rattle.frame_out.specs.OnTheWay.{GaveFrames}
use Rattle.frame_out.specs.declared.writing.Written.{Written}
use Rattle.shown_frames.specs.Clusters.{BeginsSo}

-- the image was given the texts of frames, or a front of them, whose parts are the first that tiles have shown
pub record GaveShown (l : Layout) (shown : ℕ → List TilePart) (image : Used) : Type 0 where
  pub took : ℕ → List TilePart
  pub written : Written
  pub given : GaveFrames l image took written
  pub fronts : (tile : ℕ) → tile < tile_count l → IsFront (took tile) (shown tile)

-- The image was given a front of what a whole run of the scene is due.
pub record GaveFrontOfRun (scene : Scene) (l : Layout) (image : Used) : Type 0 where
  pub kept : Record
  pub lawful : IsRecordOf scene l kept
  pub front : TookFront image (image_text_of scene l kept)

-- Where tiles have shown first what a whole run shows, an image that was given of it was given a front of that run's image text.
abbrev pub ShownFramesAreOfTheRun : Type 0
ShownFramesAreOfTheRun =
    (scene : Scene) (l : Layout) (depth : ℕ) (kept : Record) (shown : ℕ → List TilePart) (image : Used) → IsLayoutFor scene l depth → BeginsSo scene l shown kept
    → GaveShown l shown image → TookFront image (image_text_of scene l kept)

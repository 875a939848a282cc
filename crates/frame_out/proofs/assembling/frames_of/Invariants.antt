use Rattle.std.proofs.Common.{◌≡◌, ◌*◌, ℕ, length, drop}
use Rattle.rc_base.specs.Cluster.Tiles.{tile_count}
use Rattle.rc_base.specs.Drawing.Images.{Pixels}
use Rattle.frame_out.specs.Frames.{window_images, ShowFrames}
use Rattle.frame_out.proofs.assembling.frames_of.Given as goal

abbrev pub invariant-loop-frame : goal.invariant-loop-frame
invariant-loop-frame l = record {
  images : (pixels : ℕ → Pixels) → ShowFrames l.layout l.fn.parts pixels → l.frames ≡ window_images l.layout pixels l.frame;
  count : length l.parts ≡ length l.fn.parts;
  later : drop (l.frame * tile_count l.layout) l.parts ≡ drop (l.frame * tile_count l.layout) l.fn.parts;
}

use Rattle.std.specs.Prelude.{◌==◌}
use Rattle.rc_base.specs.Cluster.Tiles.{kept_corners}
use Rattle.rc_base.specs.Drawing.Kept.{vertex_at}
use Rattle.geometry.specs.Items.{rest_from}
use Rattle.bounds_bucket.specs.Extents.{corners_from}
use Rattle.bounds_bucket.specs.Still.{StandsAt}
use Rattle.bounds_bucket.proofs.Grown.{FrontSpanned}
use Rattle.bounds_bucket.proofs.Held.{first, second}
use Rattle.bounds_bucket.proofs.still.joined_extent.Given as goal

abbrev pub invariant-loop-i : goal.invariant-loop-i
invariant-loop-i l = record {
  a : StandsAt l.state (vertex_at l.fn.block.vertices (first (l.fn.block.mode == 1) l.i)) l.a;
  b : StandsAt l.state (vertex_at l.fn.block.vertices (second (l.fn.block.mode == 1) l.i)) l.b;
  spans : FrontSpanned (kept_corners l.state l.fn.block) (corners_from l.state l.fn.block (rest_from l.fn.block l.i)) l.extent;
}

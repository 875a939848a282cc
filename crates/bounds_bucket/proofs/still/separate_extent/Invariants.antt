use Rattle.rc_base.specs.Cluster.Tiles.{kept_corners}
use Rattle.geometry.specs.Items.{rest_from}
use Rattle.bounds_bucket.specs.Extents.{corners_from}
use Rattle.bounds_bucket.proofs.Grown.{FrontSpanned}
use Rattle.bounds_bucket.proofs.still.separate_extent.Given as goal

abbrev pub invariant-loop-i : goal.invariant-loop-i
invariant-loop-i l = FrontSpanned (kept_corners l.state l.fn.block) (corners_from l.state l.fn.block (rest_from l.fn.block l.i)) l.extent

use Rattle.std.proofs.Common.{◌≡◌, length}
use Rattle.std.specs.List.{All}
use Rattle.rc_base.specs.Cluster.Tiles.{kept_corners}
use Rattle.geometry.specs.Items.{AreBelow, rest_from}
use Rattle.geometry.specs.Listed.{listed}
use Rattle.bounds_bucket.specs.Extents.{corners_from}
use Rattle.bounds_bucket.proofs.EndsOfCorners.{SpansFront}
use Rattle.bounds_bucket.proofs.block.any_extent.Given as goal

abbrev pub invariant-block : goal.invariant-block
invariant-block l =
    record {
      state : l.cache.state.now ≡ l.state;
      vertices : listed l.cache.vertices ≡ l.fn.block.vertices;
      below : All (AreBelow (length l.fn.block.vertices)) (rest_from l.corners-iterator.block.now l.corners-iterator.given);
      spans : SpansFront (kept_corners l.state l.fn.block) (corners_from l.state l.fn.block (rest_from l.corners-iterator.block.now l.corners-iterator.given)) l.extent;
    }

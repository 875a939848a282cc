use Rattle.std.proofs.Common.{List, subst}
use Rattle.rc_base.specs.declared.window.WindowVertex.{WindowVertex}
use Rattle.rc_base.specs.Cluster.Tiles.{corners_in}
use Rattle.bounds_bucket.specs.Extents.{IsGrown}
use Rattle.bounds_bucket.proofs.EndsOfCorners.{found_is}
use Rattle.bounds_bucket.proofs.block.grown.Goals as goal

pub returns-clause-grown : goal.returns-clause-grown
returns-clause-grown c =
    subst (λ (us : List (List WindowVertex)). IsGrown (corners_in us) c.args.extent c.with_found.result)
    (found_is c.triangle-tri.result _ c.triangle-tri.ensures.triangle) c.with_found.ensures

use Rattle.std.proofs.Common.{subst, sym}
use Rattle.std.specs.declared.option.Option.{Option}
use Rattle.rc_base.specs.declared.triangle.WindowTriangle.{WindowTriangle}
use Rattle.geometry.specs.Pieces.{found}
use Rattle.rc_base.specs.Cluster.Tiles.{corners_in}
use Rattle.bounds_bucket.specs.Extents.{IsGrown}
use Rattle.bounds_bucket.proofs.EndsOfCorners.{grown_none, grown_one}
use Rattle.bounds_bucket.proofs.block.with_found.Goals as goal

pub returns-in-None : goal.returns-in-None
returns-in-None c =
    subst (λ (o : Option WindowTriangle). IsGrown (corners_in (found o)) c.args.extent c.args.extent) (sym c.in-None.is) (grown_none c.args.extent)

pub returns-in-Some : goal.returns-in-Some
returns-in-Some c =
    subst (λ (o : Option WindowTriangle). IsGrown (corners_in (found o)) c.args.extent c.with_triangle.result) (sym c.in-Some.is)
    (grown_one c.in-Some.t.v c.args.extent c.with_triangle.result c.with_triangle.ensures)

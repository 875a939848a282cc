use Rattle.std.proofs.Common.{ap}
use Rattle.rc_base.specs.declared.triangle.WindowTriangle.{WindowTriangle}
use Rattle.raster.proofs.SpansInTurn.{spans_from}
use Rattle.raster.proofs.coverage.spans.Goals as goal

pub returns-clause-all : goal.returns-clause-all
returns-clause-all c ss d =
    let e = c.span_iter.ensures in
    spans_from c.args.tri.now.v c.args.rect c.args.rect.y0 c.span_iter.result ss (ap (λ (t : WindowTriangle). t.v) e.triangle) e.rect e.row d

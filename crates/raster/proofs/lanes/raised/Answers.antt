use Rattle.std.proofs.Common.{ap, sym, subst, ◌∙◌, map, to_z, of_z, w64}
use Rattle.std.specs.Prelude.{replicate}
use Rattle.std.specs.Simd.Lanes.{Each2, zip2}
use borrow.Rule.Simd.Lanes.{act2, Asks2}
use borrow.Table.Row.{s_int}
use mir.Syntax.{add, signed}
use Rattle.raster.proofs.LaneBits.{raises, raised_is}
use Rattle.raster.proofs.lanes.raised.Goals as goal

pub overflow_add-result : goal.overflow_add-result
overflow_add-result c =
    subst (λ n. Each2 (Asks2 (add signed) (s_int w64) (s_int w64)) (map (of_z w64) c.args.v) (replicate n (of_z w64 c.args.up))) c.requires.lanes
    (raises c.args.v c.args.up c.requires.small c.requires.up c.ranges.up)

pub returns : goal.returns
returns c =
    ap (λ n. map (to_z w64) (zip2 (act2 (add signed) (s_int w64) (s_int w64) (s_int w64)) (map (of_z w64) c.args.v) (replicate n (of_z w64 c.args.up)))) (sym c.requires.lanes)
    ∙ raised_is c.args.v c.args.up c.requires.small c.requires.up c.ranges.up

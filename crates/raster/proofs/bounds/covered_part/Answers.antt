use Rattle.std.proofs.Common.{rules, arith, to_z-of_z, w32, FitsSigned}
use Rattle.std.proofs.lemmas.Int.{ints, int_max_is}
use Rattle.raster.proofs.PartHoldsCover.{no_columns}
use Rattle.raster.proofs.OneColumn.{no_rows}
use Rattle.raster.proofs.bounds.covered_part.Goals as goal

pub returns-then-part : goal.returns-then-part
returns-then-part c =
    let r = c.args.rect in
    no_columns c.args.tri.now.v r c.covering_part-part.result r.y0 c.covering_part-part.ensures (omega (arith, ints))

pub returns-then-part-max : goal.returns-then-part-max
returns-then-part-max c =
    let r = c.args.rect in
    let p = c.covering_part-part.result in
    let f : FitsSigned w32 p.y0 = search rules in
    let h : FitsSigned w32 r.y0 = search rules in
    let e = simp (to_z-of_z f, to_z-of_z h) at c.max.ensures.value in
    no_rows c.args.tri.now.v r p r.y0 c.covering_part-part.ensures (omega (arith, ints, e))

pub returns : goal.returns
returns c =
    let r = c.args.rect in
    let p = c.covering_part-part.result in
    let f : FitsSigned w32 p.y0 = search rules in
    let h : FitsSigned w32 r.y0 = search rules in
    let e = simp (to_z-of_z f, to_z-of_z h) at c.max.ensures.value in
    record {
      cover = c.covering_part-part.ensures;
      columns = omega (arith, ints);
      rows = omega (arith, ints, e, int_max_is p.y0 r.y0);
      above = omega (arith, ints, e, int_max_is p.y0 r.y0);
    }

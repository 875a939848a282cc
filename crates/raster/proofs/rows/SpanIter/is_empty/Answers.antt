use Rattle.std.proofs.Common.{rules, arith, to_z-of_z, w32, FitsSigned}
use Rattle.std.proofs.lemmas.Int.{ints}
use Rattle.raster.proofs.PartHoldsCover.{no_columns}
use Rattle.raster.proofs.OneColumn.{no_rows}
use Rattle.raster.proofs.rows.SpanIter.is_empty.Goals as goal

pub returns-then-part : goal.returns-then-part
returns-then-part c t =
    let s = c.args.self.now in
    let f : FitsSigned w32 s.cut.part.x0 = search rules in
    let g : FitsSigned w32 s.cut.part.x1 = search rules in
    no_columns s.tri.now.v s.rect s.cut.part s.y s.cover (omega (arith, ints))

pub returns-else-part : goal.returns-else-part
returns-else-part c t =
    let s = c.args.self.now in
    let f : FitsSigned w32 s.cut.part.y0 = search rules in
    let g : FitsSigned w32 s.cut.part.y1 = search rules in
    let h : FitsSigned w32 s.y = search rules in
    let m : FitsSigned w32 c.max.result = record { sfits = c.max.type_inv } in
    let e = simp (to_z-of_z f, to_z-of_z h) at c.max.ensures.value in
    no_rows s.tri.now.v s.rect s.cut.part s.y s.cover (omega (arith, ints, e))

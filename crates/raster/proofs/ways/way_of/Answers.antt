use Rattle.std.proofs.Common.{rules, arith, to_z-of_z, w32, FitsSigned}
use Rattle.std.proofs.lemmas.Int.{ints}
use Rattle.raster.proofs.SlopesToSpan.{lanes_told, slopes_told}
use Rattle.raster.proofs.ways.way_of.Goals as goal

pub returns-then-width-le8 : goal.returns-then-width-le8
returns-then-width-le8 c =
    let f : FitsSigned w32 c.args.cut.part.x0 = search rules in
    let g : FitsSigned w32 c.args.cut.part.x1 = search rules in
    let h : FitsSigned w32 c.args.cut.part.y0 = search rules in
    let a = c.from.ensures in
    let b = c.from-2.ensures in
    let t = c.if-width-le8.true in
    lanes_told c.args.tri.now.v c.args.cut.part c.lanes_at.result (simp (to_z-of_z f, to_z-of_z h) at c.lanes_at.ensures) (omega (arith, ints))

pub returns-then-width-le4096 : goal.returns-then-width-le4096
returns-then-width-le4096 c =
    let f : FitsSigned w32 c.args.cut.part.x0 = search rules in
    let g : FitsSigned w32 c.args.cut.part.x1 = search rules in
    let h : FitsSigned w32 c.args.cut.part.y0 = search rules in
    let a = c.from.ensures in
    let b = c.from-2.ensures in
    let t = c.if-width-le4096.true in
    slopes_told c.args.tri.now.v c.args.cut.part c.slopes_at.result (simp (to_z-of_z f, to_z-of_z h) at c.slopes_at.ensures) (omega (arith, ints))

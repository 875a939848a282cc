use Rattle.std.proofs.Common.{refl, to_z-of_z, w32, rules, FitsSigned}
use Rattle.raster.proofs.KeptRows.{column_is, column_holds, column_full}
use Rattle.raster.proofs.column.column_of.Goals as goal

pub returns-clause-part : goal.returns-clause-part
returns-clause-part c =
    let v = c.args.tri.now.v in
    let px : FitsSigned w32 c.args.part.x0 = search rules in
    let py : FitsSigned w32 c.args.part.y0 = search rules in
    let qx : FitsSigned w32 c.args.part.x1 = search rules in
    let qy : FitsSigned w32 c.args.part.y1 = search rules in
    let f : FitsSigned w32 c.kept_rows-third.result.x0 = search rules in
    let g : FitsSigned w32 c.kept_rows-third.result.x1 = search rules in
    let first = simp (to_z-of_z px, to_z-of_z py, to_z-of_z qy) at c.kept_rows-first.ensures in
    let second = simp (to_z-of_z px) at c.kept_rows-second.ensures in
    let third = simp (to_z-of_z px) at c.kept_rows-third.ensures in
    let is = column_is v c.args.rect c.args.part _ c.kept_rows-first.result c.kept_rows-second.result c.kept_rows-third.result first second third refl in
    rw (to_z-of_z px, to_z-of_z qx, to_z-of_z f, to_z-of_z g) (column_holds v c.args.rect c.args.part _ c.requires.part c.requires.one is)

pub returns-clause-full : goal.returns-clause-full
returns-clause-full c =
    let v = c.args.tri.now.v in
    let px : FitsSigned w32 c.args.part.x0 = search rules in
    let py : FitsSigned w32 c.args.part.y0 = search rules in
    let qx : FitsSigned w32 c.args.part.x1 = search rules in
    let qy : FitsSigned w32 c.args.part.y1 = search rules in
    let f : FitsSigned w32 c.kept_rows-third.result.x0 = search rules in
    let g : FitsSigned w32 c.kept_rows-third.result.x1 = search rules in
    let first = simp (to_z-of_z px, to_z-of_z py, to_z-of_z qy) at c.kept_rows-first.ensures in
    let second = simp (to_z-of_z px) at c.kept_rows-second.ensures in
    let third = simp (to_z-of_z px) at c.kept_rows-third.ensures in
    let is = column_is v c.args.rect c.args.part _ c.kept_rows-first.result c.kept_rows-second.result c.kept_rows-third.result first second third refl in
    rw (to_z-of_z px, to_z-of_z qx, to_z-of_z f, to_z-of_z g) (column_full v c.args.rect c.args.part _ c.requires.one is)

use Rattle.std.proofs.Common.{ℤ, pos, ◌<ℤ◌, to_z-of_z, w32, rules, FitsSigned, subst}
use Rattle.rc_base.specs.Drawing.Cover.{corner, triangle_area}
use Rattle.raster.proofs.PartHoldsCover.{holds_cover}
use Rattle.raster.proofs.bounds.covering_part.Goals as goal

pub returns : goal.returns
returns c =
    let v = c.args.tri.now.v in
    let ax : FitsSigned w32 (corner v 0).x = search rules in
    let ay : FitsSigned w32 (corner v 0).y = search rules in
    let bx : FitsSigned w32 (corner v 1).x = search rules in
    let by : FitsSigned w32 (corner v 1).y = search rules in
    let cx : FitsSigned w32 (corner v 2).x = search rules in
    let cy : FitsSigned w32 (corner v 2).y = search rules in
    let x0 : FitsSigned w32 c.args.rect.x0 = search rules in
    let x1 : FitsSigned w32 c.args.rect.x1 = search rules in
    let y1 : FitsSigned w32 c.args.rect.y1 = search rules in
    let l : FitsSigned w32 c.first_of-left.result = record { sfits = c.first_of-left.type_inv } in
    let r : FitsSigned w32 c.end_of-right.result = record { sfits = c.end_of-right.type_inv } in
    let o : FitsSigned w32 c.first_of-low.result = record { sfits = c.first_of-low.type_inv } in
    let h : FitsSigned w32 c.end_of-high.result = record { sfits = c.end_of-high.type_inv } in
    let m : FitsSigned w32 c.max.result = record { sfits = c.max.type_inv } in
    let n : FitsSigned w32 c.min.result = record { sfits = c.min.type_inv } in
    let k : FitsSigned w32 c.min-2.result = record { sfits = c.min-2.type_inv } in
    let positive : pos 0 <ℤ triangle_area v = subst (λ (z : ℤ). pos 0 <ℤ z) c.args.tri.now.area_is c.args.tri.now.positive in
    holds_cover v c.args.rect _ c.first_of-left.result c.first_of-low.result c.end_of-right.result c.end_of-high.result positive
    (simp (to_z-of_z ax, to_z-of_z bx, to_z-of_z cx) at c.first_of-left.ensures)
    (simp (to_z-of_z ax, to_z-of_z bx, to_z-of_z cx) at c.end_of-right.ensures)
    (simp (to_z-of_z ay, to_z-of_z by, to_z-of_z cy) at c.first_of-low.ensures)
    (simp (to_z-of_z ay, to_z-of_z by, to_z-of_z cy) at c.end_of-high.ensures)
    (rw (to_z-of_z m) (simp (to_z-of_z l, to_z-of_z x0) at c.max.ensures.value))
    (to_z-of_z o)
    (rw (to_z-of_z n) (simp (to_z-of_z r, to_z-of_z x1) at c.min.ensures.value))
    (rw (to_z-of_z k) (simp (to_z-of_z h, to_z-of_z y1) at c.min-2.ensures.value))

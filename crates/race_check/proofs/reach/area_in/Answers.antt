use Rattle.std.proofs.Common.{◌≡◌, arith}
use Rattle.std.proofs.Common.{w32, to_z, of_z}
use Rattle.std.proofs.lemmas.Int.{ints}
use Rattle.race_check.proofs.Reaches.{area_has}
use Rattle.race_check.proofs.reach.area_in.Goals as goal

pub returns-clause-all : goal.returns-clause-all
returns-clause-all c x y lx ly h =
    let r = c.args.rect in
    let x0 : to_z w32 (of_z w32 r.x0) ≡ r.x0 = omega (arith, ints) in
    let y0 : to_z w32 (of_z w32 r.y0) ≡ r.y0 = omega (arith, ints) in
    let x1 : to_z w32 (of_z w32 r.x1) ≡ r.x1 = omega (arith, ints) in
    let y1 : to_z w32 (of_z w32 r.y1) ≡ r.y1 = omega (arith, ints) in
    area_has r c.range_in-rows.result c.range_in-columns.result c.args.width c.args.height x y (λ k lt lo up. c.range_in-rows.ensures.all k lt (omega (arith, ints)) (omega (arith, ints)))
    (λ k lt lo up. c.range_in-columns.ensures.all k lt (omega (arith, ints)) (omega (arith, ints))) lx ly h

use Rattle.std.proofs.Common.{◌≡◌, pos, ◌+ℤ◌, refl, arith, to_z, of_z, to_z-of_z, w64, FitsSigned}
use Rattle.std.proofs.lemmas.Int.{ints}
use Rattle.std.specs.Int.{int_min, int_max}
use Rattle.raster.proofs.SlopesToSpan.{held_under, held_over}
use Rattle.raster.proofs.slopes.held.Goals as goal

value : (c : goal.After-min) → to_z w64 (of_z w64 c.min.result) ≡ int_min (int_max (c.args.most +ℤ c.args.step) (pos 0)) c.args.reach
value c =
    let f : FitsSigned w64 c.max.result = record { sfits = c.max.type_inv } in
    let g : FitsSigned w64 c.min.result = record { sfits = c.min.type_inv } in
    let m = c.requires.most in let m0 = m.0 in let m1 = m.1 in
    let s = c.requires.step in let s0 = s.0 in let s1 = s.1 in
    let n : FitsSigned w64 (c.args.most +ℤ c.args.step) = omega (arith, ints) in
    rw (to_z-of_z g, c.min.ensures.value, to_z-of_z f, c.max.ensures.value, to_z-of_z c.ranges.most, to_z-of_z c.ranges.step, to_z-of_z c.ranges.reach, to_z-of_z n) refl

pub returns-clause-under : goal.returns-clause-under
returns-clause-under c h = held_under _ c.args.most c.args.step c.args.reach _ refl (value c) h

pub returns-clause-over : goal.returns-clause-over
returns-clause-over c h = held_over _ c.args.most c.args.step c.args.reach _ refl (value c) h

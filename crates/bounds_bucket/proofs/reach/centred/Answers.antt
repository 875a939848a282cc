use Rattle.std.proofs.Common.{◌≡◌, arith, to_z, of_z, to_z-of_z, FitsSigned}
use mir.Syntax.{w128}
use Rattle.std.proofs.lemmas.Int.{ints}
use Rattle.bounds_bucket.proofs.Centred.{centred_is}
use Rattle.bounds_bucket.proofs.reach.centred.Goals as goal

pub returns : goal.returns
returns c =
    let lo : to_z w128 (of_z w128 c.args.i.lo) ≡ c.args.i.lo = omega (arith, ints) in
    let hi : to_z w128 (of_z w128 c.args.i.hi) ≡ c.args.i.hi = omega (arith, ints) in
    let first : FitsSigned w128 c.first_from.result = record { sfits = c.first_from.type_inv } in
    let end : FitsSigned w128 c.end_after.result = record { sfits = c.end_after.type_inv } in
    centred_is c.args.range c.cut_start.result c.cut_end.result c.args.i c.first_from.result c.end_after.result
    (simp lo at c.first_from.ensures.above) (simp lo at c.first_from.ensures.below) (simp hi at c.end_after.ensures.below) (simp hi at c.end_after.ensures.above)
    (simp (to_z-of_z first) at c.cut_start.ensures) (simp (to_z-of_z end) at c.cut_end.ensures)

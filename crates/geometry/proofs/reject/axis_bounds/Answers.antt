use Rattle.std.proofs.Common.{arith, to_z-of_z}
use Rattle.std.proofs.lemmas.Int.{ints}
use Rattle.geometry.proofs.reject.axis_bounds.Goals as goal

pub bound_by-low-requires-clause-bound : goal.bound_by-low-requires-clause-bound
bound_by-low-requires-clause-bound c =
    let h = c.is_small-2.ensures c.if-not-is_small-2.false in
    (omega (arith, ints, h), omega (arith, ints, h))

pub returns : goal.returns
returns c = record {
  scale = grind (arith, to_z-of_z);
  low = grind (arith, to_z-of_z);
  high = grind (arith, to_z-of_z);
}

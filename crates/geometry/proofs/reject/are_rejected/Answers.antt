use Rattle.std.proofs.Common.{inl, inr, arith}
use Rattle.std.proofs.lemmas.Int.{ints}
use Rattle.geometry.proofs.reject.are_rejected.Goals as goal

pub returns-then-are_aside : goal.returns-then-are_aside
returns-then-are_aside c _ = record {
  first = omega (arith, ints, c.if-a-le0.false);
  second = omega (arith, ints, c.if-b-le0.false);
  third = omega (arith, ints, c.if-c-le0.false);
  aside = inl (c.are_aside.ensures c.if-are_aside.true);
}

pub returns-else-are_aside : goal.returns-else-are_aside
returns-else-are_aside c h = record {
  first = omega (arith, ints, c.if-a-le0.false);
  second = omega (arith, ints, c.if-b-le0.false);
  third = omega (arith, ints, c.if-c-le0.false);
  aside = inr (c.are_aside-else-are_aside.ensures h);
}

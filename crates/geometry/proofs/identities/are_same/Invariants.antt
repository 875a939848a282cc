use Rattle.std.proofs.Common.{◌≡◌, take}
use Rattle.std.specs.Ordering.{int_eq}
use Rattle.std.specs.Cmp.Lexicographic.{pointwise}
use Rattle.geometry.proofs.identities.are_same.Given as goal

abbrev pub invariant-loop-i : goal.invariant-loop-i
invariant-loop-i l = l.same ≡ pointwise int_eq (take l.i l.a) (take l.i l.b)

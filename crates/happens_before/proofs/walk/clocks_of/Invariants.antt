use Rattle.std.proofs.Common.{◌≡◌}
use Rattle.happens_before.specs.Walks.{HasRead}
use Rattle.happens_before.proofs.walk.clocks_of.Given as goal

abbrev pub invariant-loop : goal.invariant-loop
invariant-loop l = record {
  read : l.walk.read ≡ l.counter;
  is : HasRead l.syncs l.journal l.walk;
}

use Rattle.race_check.specs.Finds.{IsFirst, OrBefore}
use Rattle.race_check.proofs.FoundFirst.{IsFoundBelow}
use Rattle.race_check.proofs.found.look_at_each.Given as goal

abbrev pub invariant-loop-client : goal.invariant-loop-client
invariant-loop-client l = IsFirst (OrBefore l.fn.best (IsFoundBelow l.client l.own l.clock l.cell l.spot)) l.best

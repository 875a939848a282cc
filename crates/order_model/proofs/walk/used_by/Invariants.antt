use Rattle.std.proofs.Common.{◌≡◌, ◌+◌, ◌≤◌, drop}
use Rattle.order_model.specs.Counted.{used_by}
use Rattle.order_model.proofs.walk.used_by.Given as goal

abbrev pub invariant-loop-entry : goal.invariant-loop-entry
invariant-loop-entry l = (l.n ≤ l.entry-index) × (l.n + used_by l.clients l.client (drop l.entry-index l.journal) ≡ used_by l.clients l.client l.journal)

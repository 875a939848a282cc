use Rattle.std.proofs.Common.{◌≡◌, ◌≤◌}
use Rattle.std.specs.Prelude.{count_by}
use Rattle.std.specs.List.{range_with_len}
use Rattle.context_switch.proofs.Counts.{differs}
use Rattle.context_switch.proofs.states.switch.Given as goal

abbrev pub invariant-loop-element : goal.invariant-loop-element
invariant-loop-element l = (l.count ≡ count_by (differs l.fn.hw l.fn.to) (range_with_len 0 l.element)) × (l.count ≤ l.element)

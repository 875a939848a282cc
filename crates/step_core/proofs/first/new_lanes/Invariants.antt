use Rattle.std.proofs.Common.{[]}
use Rattle.step_core.specs.Worlds.{AreLanesOf}
use Rattle.step_core.proofs.first.new_lanes.Given as goal

abbrev pub invariant-loop : goal.invariant-loop
invariant-loop g l = AreLanesOf l.depth l.counter (λ i. []) l.lanes.items

use Rattle.std.proofs.Common.{[]}
use Rattle.rc_base.specs.declared.state.Parcel.{Parcel}
use Rattle.step_core.specs.Worlds.{AreLanesOf}
use Rattle.step_core.proofs.first.new_landings.Given as goal

abbrev pub invariant-loop : goal.invariant-loop
invariant-loop l = AreLanesOf {T = Parcel} l.depth l.counter (λ i. []) l.lanes.items

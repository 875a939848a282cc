use Rattle.std.proofs.Common.{take}
use Rattle.step_core.specs.Runs.{IsRunOf}
use Rattle.step_core.proofs.schedule.run_schedule.Given as goal

abbrev pub invariant-loop-pick : goal.invariant-loop-pick
invariant-loop-pick l = IsRunOf l.scene l.layout l.depth (take l.pick-index l.picks) l.moves.items l.cluster

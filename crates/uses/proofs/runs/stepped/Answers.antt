use Rattle.std.proofs.Common.{◌≡◌, ℕ, List, Result, Ok, Err}
use Rattle.std.specs.Prelude.{IfOk}
use Rattle.rc_base.specs.declared.out_of_memory.OutOfMemory.{OutOfMemory}
use Rattle.step_core.specs.Schedules.{picks_of, IsRightFor, WorldView}
use Rattle.uses.proofs.runs.stepped.Goals as goal

follow : (r : Result WorldView OutOfMemory) (picks : List ℕ) → IfOk r (IsRightFor picks) → IfOk r (λ world. picks_of world ≡ picks)
follow (Ok world) picks right = right.run.actors
follow (Err e) picks right = tt

pub returns : goal.returns
returns c = follow c.run_schedule.result c.args.picks.now c.run_schedule.ensures.right

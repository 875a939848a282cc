use Rattle.std.proofs.Common.{◌≡◌, take}
use Rattle.serial_render.specs.Runs.{names_of_runs}
use Rattle.serial_render.proofs.runs.names_of.Given as goal

abbrev pub invariant-loop-run : goal.invariant-loop-run
invariant-loop-run l = record { names : l.names.items ≡ names_of_runs (take l.run-index l.runs) }

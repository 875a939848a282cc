use Rattle.std.proofs.Common.{◌≡◌, ◌++◌, take}
use Rattle.serial_render.specs.Runs.{names_of_run, names_of_runs}
use Rattle.serial_render.proofs.runs.runs_of.Given as goal

abbrev pub invariant-loop-name : goal.invariant-loop-name
invariant-loop-name l = record { names : names_of_runs l.runs.items ++ names_of_run l.run ≡ take l.name-index l.names }

use Rattle.std.proofs.Common.{◌+◌, eqb-true}
use Rattle.serial_render.proofs.NamesOfRuns.{run_goes_on}
use Rattle.serial_render.proofs.runs.goes_on.Goals as goal

pub returns-then-run : goal.returns-then-run
returns-then-run c h = run_goes_on c.args.run.now c.args.name c.if-run-name.true c.if-run.true (eqb-true (c.args.run.now.last + 1) c.args.name.place h)

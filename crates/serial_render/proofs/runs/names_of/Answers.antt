use Rattle.std.proofs.Common.{◌++◌, List, ◌∙◌, ap, sym}
use Rattle.rc_base.specs.declared.sync.Name.{Name}
use Rattle.serial_render.specs.Runs.{names_of_run, run_at}
use Rattle.serial_render.proofs.NamesOfRuns.{runs_more}
use Rattle.serial_render.proofs.runs.names_of.Goals as goal

pub loop-run-preserved : goal.loop-run-preserved
loop-run-preserved c =
    let runs = c.args.runs.now in
    let i = c.loop-run.run-index in
    record {
      names = c.in_ok-add_names.ensures ∙ ap (λ (l : List Name). l ++ names_of_run (run_at runs i)) c.loop-run.invariant.names
          ∙ sym (runs_more runs i (record { client = 0; first = 0; last = 0 }) c.loop-run-test.true);
    }

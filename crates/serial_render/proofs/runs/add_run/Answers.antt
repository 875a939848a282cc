use Rattle.std.proofs.Common.{◌++◌, ◌-◌, List, ◌∙◌, ap, sym}
use Rattle.std.proofs.lemmas.List.{append-nil}
use Rattle.rc_base.specs.declared.sync.Name.{Name}
use Rattle.serial_render.specs.Runs.{names_of_runs}
use Rattle.serial_render.specs.declared.runs.Run.{Run}
use Rattle.serial_render.proofs.NamesOfRuns.{none_below, run_below, with_run}
use Rattle.serial_render.proofs.runs.add_run.Goals as goal

pub returns-then-from-to : goal.returns-then-from-to
returns-then-from-to c =
    let old = names_of_runs c.args.runs.now.items in
    sym (append-nil old) ∙ ap (λ (l : List Name). old ++ l) (sym (none_below c.args.client c.args.from c.args.to c.if-from-to.true))

pub returns : goal.returns
returns c =
    let old = c.args.runs.now.items in
    let run : Run = record { client = c.args.client; first = c.args.from; last = c.args.to - 1 } in
    ap (λ (l : List Run). names_of_runs l) c.in_ok-push.ensures.items ∙ with_run old run
    ∙ ap (λ (l : List Name). names_of_runs old ++ l) (run_below c.args.client c.args.from c.args.to c.if-from-to.false)

use Rattle.std.proofs.Common.{◌∷◌, [], ◌++◌, List, ◌∙◌, ap, append_assoc, sym}
use Rattle.rc_base.specs.declared.sync.Name.{Name}
use Rattle.serial_render.specs.Runs.{names_of_run, names_of_runs}
use Rattle.serial_render.specs.declared.runs.Run.{Run}
use Rattle.serial_render.proofs.NamesOfRuns.{run_of_one, with_run}
use Rattle.serial_render.proofs.runs.with_name.Goals as goal

pub returns-then-goes_on : goal.returns-then-goes_on
returns-then-goes_on c =
    let old = names_of_runs c.args.runs.now.items in
    ap (λ (l : List Name). old ++ l) (c.goes_on.ensures c.if-goes_on.true) ∙ sym (append_assoc old (names_of_run c.args.run) (c.args.name ∷ []))

pub returns : goal.returns
returns c =
    let name = c.args.name in
    let one : Run = record { client = name.client; first = name.place; last = name.place } in
    let old = c.args.runs.now.items in
    ap (λ (l : List Run). names_of_runs l ++ names_of_run one) c.in_ok-push.ensures.items
    ∙ ap (λ (l : List Name). l ++ names_of_run one) (with_run old c.args.run)
    ∙ ap (λ (l : List Name). (names_of_runs old ++ names_of_run c.args.run) ++ l) (run_of_one name)

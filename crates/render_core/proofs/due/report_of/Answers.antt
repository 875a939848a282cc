use Rattle.std.proofs.Common.{ℕ, List, ap₂, ◌∙◌}
use Rattle.rc_base.specs.declared.state.Fault.{Fault}
use Rattle.rc_base.specs.declared.sync.Entry.{Entry}
use Rattle.run_words.specs.Reports.{lines_of_turns_with}
use Rattle.render_core.specs.Due.{work_on}
use Rattle.render_core.proofs.Dues.{told_with}
use Rattle.render_core.proofs.due.report_of.Goals as goal

pub returns : goal.returns
returns c = λ scene is.
    let run = c.args.run.now in
    let refused = c.args.refused.now in
    let counted = c.args.counted.now in
    let told = c.args.told.now in
    told_with (work_on scene refused counted) run.faults run.journal run.waiting is.are is.journal told _
    (c.in_ok-short_report.ensures
    ∙ ap₂ (λ (faults : List (List (ℕ × Fault))) (journal : List Entry). lines_of_turns_with refused counted faults journal told run.waiting)
    c.as_slice.ensures c.as_slice-2.ensures)

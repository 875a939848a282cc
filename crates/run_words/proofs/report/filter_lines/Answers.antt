use Rattle.std.proofs.Common.{◌∙◌, sym, ap, ◌++◌}
use Rattle.run_words.proofs.Counted.{lines_next}
use Rattle.run_words.proofs.report.filter_lines.Goals as goal

pub loop-filter-preserved : goal.loop-filter-preserved
loop-filter-preserved c =
    c.in_ok-append.ensures ∙ ap (λ xs. xs ++ c.in_ok-counted_lines.field-0) c.loop-filter.invariant
    ∙ sym (lines_next c.args.rules.now c.loop-filter.filter _ c.in_ok-counted_lines.field-0 c.loop-filter-test.true c.in_ok-counted_lines.ensures)

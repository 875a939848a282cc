use Rattle.std.proofs.Common.{ℕ, List, [], ◌++◌, None, ap, sym, ◌∙◌}
use Rattle.std.specs.Prelude.{slice_index_or}
use Rattle.std.specs.Option.{option_map_or}
use Rattle.order_model.specs.Report.{stuck_line}
use Rattle.run_words.proofs.ClientLines.{lines_more}
use Rattle.run_words.proofs.report.waiting_lines.Goals as goal

pub loop-client-preserved : goal.loop-client-preserved
loop-client-preserved c =
    let at = c.args.at.now in
    let i = c.loop-client.client in
    let more = lines_more (λ client. option_map_or (stuck_line client) (slice_index_or at client None) []) i in
    c.in_ok-waiting_line.ensures ∙ ap (λ (l : List ℕ). l ++ option_map_or (stuck_line i) (slice_index_or at i None) []) c.loop-client.invariant ∙ sym more

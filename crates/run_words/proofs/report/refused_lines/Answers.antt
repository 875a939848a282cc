use Rattle.std.proofs.Common.{[]}
use Rattle.std.specs.Prelude.{slice_index_or}
use Rattle.std.specs.List.{flat_map}
use Rattle.std.proofs.lemmas.List.{get_or_default}
use Rattle.order_model.specs.Report.{refused_line}
use Rattle.run_words.proofs.ClientLines.{lines_more}
use Rattle.run_words.proofs.report.refused_lines.Goals as goal

pub loop-client-preserved : goal.loop-client-preserved
loop-client-preserved c =
    let faults = c.args.faults.now in
    let i = c.loop-client.client in
    let is = get_or_default faults i [] c.index-faults-client.result c.loop-client-test.true in
    let more = lines_more (λ client. flat_map (refused_line c.args.word.now client) (slice_index_or faults client [])) i in
    cc (is, more, c.index-faults-client.is, c.as_slice.ensures, c.in_ok-client_lines.ensures, c.in_ok-append.ensures, c.loop-client.invariant)

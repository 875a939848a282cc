use Rattle.std.proofs.Common.{◌≡◌, []}
use Rattle.std.specs.Prelude.{slice_index_or}
use Rattle.std.specs.List.{flat_map, range_with_len}
use Rattle.order_model.specs.Report.{refused_line}
use Rattle.run_words.proofs.report.refused_lines.Given as goal

abbrev pub invariant-loop-client : goal.invariant-loop-client
invariant-loop-client l = l.lines ≡ flat_map (λ client. flat_map (refused_line l.word client) (slice_index_or l.faults client [])) (range_with_len 0 l.client)

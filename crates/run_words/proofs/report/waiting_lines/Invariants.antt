use Rattle.std.proofs.Common.{◌≡◌, [], None}
use Rattle.std.specs.Prelude.{slice_index_or}
use Rattle.std.specs.List.{flat_map, range_with_len}
use Rattle.std.specs.Option.{option_map_or}
use Rattle.order_model.specs.Report.{stuck_line}
use Rattle.run_words.proofs.report.waiting_lines.Given as goal

abbrev pub invariant-loop-client : goal.invariant-loop-client
invariant-loop-client l = l.lines ≡ flat_map (λ client. option_map_or (stuck_line client) (slice_index_or l.at client None) []) (range_with_len 0 l.client)

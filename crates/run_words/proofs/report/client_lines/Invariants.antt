use Rattle.std.proofs.Common.{◌≡◌, take}
use Rattle.std.specs.List.{flat_map}
use Rattle.order_model.specs.Report.{refused_line}
use Rattle.run_words.proofs.report.client_lines.Given as goal

abbrev pub invariant-loop-refused : goal.invariant-loop-refused
invariant-loop-refused l = l.lines ≡ flat_map (refused_line l.word l.client) (take l.refused-index l.faults)

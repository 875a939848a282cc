use Rattle.std.proofs.Common.{◌≡◌, take}
use Rattle.std.specs.List.{flat_map}
use Rattle.order_model.specs.Report.{order_line}
use Rattle.run_words.proofs.report.lines_of.Given as goal

abbrev pub invariant-loop-name : goal.invariant-loop-name
invariant-loop-name l = l.lines ≡ flat_map (order_line l.tile) (take l.name-index l.order)

use Rattle.std.proofs.Common.{◌≡◌, take}
use Rattle.run_words.specs.Lines.{filter_lines}
use Rattle.spu_chain.specs.Scenes.{counts_from}
use Rattle.run_words.proofs.report.filter_lines.Given as goal

abbrev pub invariant-loop-filter : goal.invariant-loop-filter
invariant-loop-filter l = l.lines ≡ filter_lines (counts_from 0 (take l.filter l.rules))

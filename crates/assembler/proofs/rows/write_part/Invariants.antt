use Rattle.std.proofs.Common.{◌≡◌, length}
use Rattle.assembler.proofs.Lines.{line_from, AreLinesDrawn}
use Rattle.assembler.proofs.rows.write_part.Given as goal

abbrev pub invariant-loop-k : goal.invariant-loop-k
invariant-loop-k l = record {
  size : length l.rgb ≡ length l.fn.rgb;
  from : l.from ≡ line_from l.layout l.tile l.k;
  done : AreLinesDrawn l.layout l.tile l.part.pixels l.fn.rgb l.rgb l.k;
}

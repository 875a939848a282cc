use Rattle.ppm_out.proofs.Walk.{Reads}
use Rattle.ppm_out.proofs.header.read_header.Given as goal

abbrev pub invariant-loop-at : goal.invariant-loop-at
invariant-loop-at l = Reads l.bytes l.at l.due

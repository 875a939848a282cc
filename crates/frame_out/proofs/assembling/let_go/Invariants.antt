use Rattle.std.proofs.Common.{◌≡◌, length, drop}
use Rattle.frame_out.proofs.assembling.let_go.Given as goal

abbrev pub invariant-loop-i : goal.invariant-loop-i
invariant-loop-i l = record {
  count : length l.parts ≡ length l.fn.parts;
  later : drop l.fn.to l.parts ≡ drop l.fn.to l.fn.parts;
}

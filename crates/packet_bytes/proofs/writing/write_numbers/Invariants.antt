use Rattle.std.proofs.Common.{◌≡◌, ◌++◌, take}
use Rattle.packet_bytes.specs.Parts.{numbers_bytes}
use Rattle.packet_bytes.proofs.writing.write_numbers.Given as goal

abbrev pub invariant-loop-i : goal.invariant-loop-i
invariant-loop-i l = l.out ≡ l.fn.out ++ numbers_bytes (take l.i l.ranges) l.numbers

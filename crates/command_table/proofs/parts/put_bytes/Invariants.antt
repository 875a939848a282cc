use Rattle.std.proofs.Common.{◌≡◌, take, length, map, pos}
use Rattle.command_table.proofs.parts.put_bytes.Given as goal

abbrev pub invariant-loop-i : goal.invariant-loop-i
invariant-loop-i l = (length l.room ≡ length l.fn.room) × (take l.i l.room ≡ take l.i (map pos l.bytes))

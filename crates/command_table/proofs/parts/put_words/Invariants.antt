use Rattle.std.proofs.Common.{◌≡◌, take, length, replicate}
use Rattle.rc_base.specs.declared.command.NumberRange.TheVariants as range
use Rattle.command_table.specs.Ranges.{AreIn}
use Rattle.command_table.proofs.parts.put_words.Given as goal

abbrev pub invariant-loop-i : goal.invariant-loop-i
invariant-loop-i l = (length l.room ≡ length l.fn.room) × (take l.i l.room ≡ take l.i l.words) × AreIn (replicate (length (take l.i l.words)) range.Word) (take l.i l.words)

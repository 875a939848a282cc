use Rattle.std.proofs.Common.{arith}
use Rattle.rc_base.specs.declared.command.NumberRange.TheVariants as range
use Rattle.command_table.proofs.NumbersInRange.{in_at, length_in}
use Rattle.packet_bytes.proofs.PartsArePayloads.{bytes_more}
use Rattle.packet_bytes.proofs.writing.write_numbers.Goals as goal

pub write_number-requires-clause-inside : goal.write_number-requires-clause-inside
write_number-requires-clause-inside c = omega (arith, length_in c.args.ranges.now c.args.numbers.now c.requires, c.loop-i-test.true)

pub write_number-requires-clause-range : goal.write_number-requires-clause-range
write_number-requires-clause-range c = in_at c.args.ranges.now c.args.numbers.now c.loop-i.i range.Byte c.requires c.loop-i-test.true

pub loop-i-preserved : goal.loop-i-preserved
loop-i-preserved c =
    bytes_more c.args.ranges.now c.args.numbers.now c.loop-i.i range.Byte c.args.out.now c.loop-i.out c.write_number.new.out c.requires c.loop-i-test.true
    c.loop-i.invariant c.in_ok-write_number.ensures

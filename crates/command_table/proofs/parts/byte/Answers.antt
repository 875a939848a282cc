use Rattle.std.proofs.Common.{arith}
use Rattle.command_table.proofs.NumbersInRange.{byte_in}
use Rattle.command_table.proofs.parts.byte.Goals as goal

pub returns-clause-in_range : goal.returns-clause-in_range
returns-clause-in_range c = byte_in c.args.number (omega (arith, c.ranges.number))

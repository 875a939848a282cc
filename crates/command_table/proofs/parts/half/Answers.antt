use Rattle.std.proofs.Common.{arith}
use Rattle.command_table.proofs.NumbersInRange.{half_in}
use Rattle.command_table.proofs.parts.half.Goals as goal

pub returns-clause-in_range : goal.returns-clause-in_range
returns-clause-in_range c = half_in c.args.number (omega (arith, c.ranges.number))

use Rattle.std.proofs.Common.{arith, to_z-of_z}
use Rattle.fixed_math.proofs.matrix.widen.Goals as goal

pub returns-clause-value : goal.returns-clause-value
returns-clause-value c = grind (arith, to_z-of_z)

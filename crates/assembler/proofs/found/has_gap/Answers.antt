use Rattle.std.proofs.Common.{arith}
use Rattle.assembler.proofs.Waiting.{all_there}
use Rattle.assembler.proofs.found.has_gap.Goals as goal

pub returns-clause-none : goal.returns-clause-none
returns-clause-none c = λ h. all_there c.args.places.now (λ k lt. c.loop-tile.invariant k (omega (arith, lt)))

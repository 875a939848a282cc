use Rattle.std.proofs.Common.{arith}
use Rattle.std.proofs.lemmas.Int.{ints}
use Rattle.fixed_math.proofs.IntervalEnds.{quotient_in, quotient_ordered, quotient_small}
use Rattle.fixed_math.proofs.quotients.quotient.Goals as goal

pub returns-clause-holds : goal.returns-clause-holds
returns-clause-holds c = λ x y h k. rw c.ends.ensures (quotient_in c.args.n c.args.d x y c.requires.positive h k)

pub returns-clause-ordered : goal.returns-clause-ordered
returns-clause-ordered c = rw c.ends.ensures (quotient_ordered c.args.n c.args.d c.requires.positive c.requires.numerator c.requires.divisor)

pub returns-clause-small : goal.returns-clause-small
returns-clause-small c = λ b h. rw c.ends.ensures (quotient_small c.args.n c.args.d b c.requires.positive (omega (arith, ints)) h)

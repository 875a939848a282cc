use Rattle.std.proofs.Common.{arith, sym}
use Rattle.geometry.proofs.Triples.{strip_odd, strip_even}
use Rattle.geometry.proofs.primitives.strip_at.Goals as goal

pub returns-then-i-eq1 : goal.returns-then-i-eq1
returns-then-i-eq1 c = sym (strip_odd c.args.i (omega arith))

pub returns-else-i-eq1 : goal.returns-else-i-eq1
returns-else-i-eq1 c = sym (strip_even c.args.i (λ e. absurd (omega arith)))

use Rattle.bounds_bucket.proofs.BitSets.{with_one}
use Rattle.bounds_bucket.proofs.bits.with_if.Goals as goal

pub returns-then-yes : goal.returns-then-yes
returns-then-yes c k = rw c.if-yes.true (with_one c.args.set c.args.n c.requires k)

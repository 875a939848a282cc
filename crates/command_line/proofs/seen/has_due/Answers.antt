use Rattle.std.proofs.Common.{refl}
use Rattle.command_line.proofs.Due.{seed_due, both_due, first_due}
use Rattle.command_line.proofs.seen.has_due.Goals as goal

pub returns-in-Simulate : goal.returns-in-Simulate
returns-in-Simulate c = rw (c.in-Simulate.is) (seed_due c.args.seen c.args.seen.seed refl)

pub returns-then-seen : goal.returns-then-seen
returns-then-seen c = rw (c.in-Gen.is) (both_due c.args.seen c.args.seen.size c.if-seen.true refl)

pub returns-else-seen : goal.returns-else-seen
returns-else-seen c = rw (c.in-Gen.is) (first_due c.args.seen c.args.seen.seed refl c.if-seen.false)

pub returns-then-seen-2 : goal.returns-then-seen-2
returns-then-seen-2 c = rw (c.in-Demo.is) (both_due c.args.seen c.args.seen.size c.if-seen-2.true refl)

pub returns-else-seen-2 : goal.returns-else-seen-2
returns-else-seen-2 c = rw (c.in-Demo.is) (first_due c.args.seen c.args.seen.seed refl c.if-seen-2.false)

use Rattle.std.proofs.Common.{arith}
use Rattle.happens_before.proofs.WalkedEntries.{all_read, kept_ordered}
use Rattle.happens_before.proofs.walk.clocks_of.Goals as goal

pub returns-clause-ordered : goal.returns-clause-ordered
returns-clause-ordered c =
    let w = c.loop.walk in
    kept_ordered _ _ _ w.semaphores.items w.timelines.clients.items c.loop.invariant.is.kept

pub returns-clause-exact : goal.returns-clause-exact
returns-clause-exact c =
    let w = c.loop.walk in
    all_read c.args.syncs.now c.args.journal.now w.read w.used w.semaphores.items w.timelines.clients.items (omega (arith, c.loop.invariant.read)) c.loop.invariant.is

use Rattle.std.proofs.Common.{refl, arith}
use Rattle.happens_before.proofs.WalkedEntries.{first_read}
use Rattle.happens_before.proofs.walk.Walk.new.Goals as goal

pub returns-clause-is : goal.returns-clause-is
returns-clause-is c journal =
    let e = c.in_ok-new.ensures in
    first_read c.args.syncs.now journal _ c.loop-name.semaphores.items c.in_ok-new.field-0.clients.items refl (omega (arith, c.loop-name.invariant.count)) (λ name lt. c.loop-name.invariant.units name (omega arith)) e.timelines e.empty

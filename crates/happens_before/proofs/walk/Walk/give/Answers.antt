use Rattle.std.proofs.Common.{sym, ◌∙◌, refl, arith, eq-eqb}
use Rattle.rc_base.specs.declared.sync.Entry.TheVariants.{Give}
use Rattle.happens_before.proofs.WalkedEntries.{give_here, no_place}
use Rattle.happens_before.proofs.walk.Walk.give.Goals as goal

pub returns-in_ok-give : goal.returns-in_ok-give
returns-in_ok-give c =
    let w = c.args.self.now in
    record {
      far = (refl, refl);
      kept = give_here c.args.syncs.now c.args.journal.now w.read c.args.semaphore c.args.client c.in-Some.place w.used w.semaphores.items w.timelines.clients.items c.index_mut.result.now c.give.new.self
          c.requires.next.along.lists c.requires.next.along.legal c.requires.next.here (omega (arith, c.ranges.semaphore.fits)) c.requires.client c.in-Some.ensures.small (sym c.place_of.ensures.place ∙ c.in-Some.is)
          c.requires.next.along.read c.index_mut.ensures.value c.in_ok-give.ensures;
    }

pub returns-in_default : goal.returns-in_default
returns-in_default c =
    let w = c.args.self.now in
    absurd (no_place c.args.syncs.now c.args.journal.now w.read (Give c.args.semaphore c.args.client) w.used w.semaphores.items w.timelines.clients.items c.requires.next.along.legal c.requires.next.here c.requires.next.along.read
    c.args.client c.requires.client (eq-eqb c.args.client c.args.client refl) (sym c.place_of.ensures.place ∙ c.in_default.is))

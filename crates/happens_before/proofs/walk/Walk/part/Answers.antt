use Rattle.std.proofs.Common.{refl}
use Rattle.happens_before.proofs.WalkedEntries.{part_here, kept_ordered, late_places}
use Rattle.happens_before.proofs.walk.Walk.part.Goals as goal

pub gate_of-gate-requires : goal.gate_of-gate-requires
gate_of-gate-requires c = let w = c.args.self.now in record { timelines = kept_ordered _ _ _ w.semaphores.items w.timelines.clients.items c.requires.next.along.read.kept }

pub raise_members-requires-clause-timelines : goal.raise_members-requires-clause-timelines
raise_members-requires-clause-timelines c = let w = c.args.self.now in kept_ordered _ _ _ w.semaphores.items w.timelines.clients.items c.requires.next.along.read.kept

pub raise_members-requires-clause-late : goal.raise_members-requires-clause-late
raise_members-requires-clause-late c =
    let w = c.args.self.now in
    late_places c.args.syncs.now c.args.journal.now w.read c.args.entry w.used c.places-at.result w.semaphores.items w.timelines.clients.items c.requires.next.along.clients c.requires.next.along.read c.places-at.ensures.slots
    c.places-at.ensures.places

pub returns : goal.returns
returns c =
    let w = c.args.self.now in
    let e = c.in_ok-raise_members.ensures in
    record {
      far = (refl, refl);
      kept = part_here c.args.syncs.now c.args.journal.now w.read c.args.entry w.used c.gate_of-gate.result c.places-at.result w.semaphores.items w.timelines.clients.items c.raise_members.new.timelines.clients.items
          c.requires.next.along.lists c.requires.next.along.clients c.requires.next.along.legal c.requires.many c.requires.next.here c.requires.next.along.read c.places-at.ensures.slots c.places-at.ensures.places c.gate_of-gate.ensures e.clients e.moved e.others e.clock;
    }

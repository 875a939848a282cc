use Rattle.std.proofs.Common.{◌+◌, refl, sym, subst, arith, slice_index}
use Rattle.happens_before.specs.Timelines.{places_in, AreChanges}
use Rattle.happens_before.specs.declared.timelines.Timelines.{Timelines}
use Rattle.happens_before.proofs.GatesOfMembers.{IsRaisedBelow, raise_more, raise_skips, raised_ordered}
use Rattle.happens_before.proofs.walk.raise_members.Goals as goal
use Rattle.happens_before.proofs.walk.raise_members.Goals.{in-Some+in_ok-raise-in-Some, in-None}

pub loop-client-init : goal.loop-client-init
loop-client-init c = record {
  clients = c.requires.timelines.clients;
  moved = λ k p lt. absurd (omega arith);
  others = λ k e. refl;
  left = λ k e. refl;
  clock = λ n d lt. absurd (omega arith);
}

pub raise-requires-clause-timelines : goal.raise-requires-clause-timelines
raise-requires-clause-timelines c =
    raised_ordered c.args.timelines.now.clients.items c.loop-client.timelines.clients.items (places_in c.args.at.now) c.loop-client.client (slice_index c.args.gate.now) c.loop-client.invariant
    c.requires.timelines

pub raise-requires-clause-late : goal.raise-requires-clause-late
raise-requires-clause-late c =
    let k = c.loop-client.client in
    subst (λ xs. AreChanges 0 xs (c.in-Some.place + 1)) (sym (c.loop-client.invariant.left k (omega arith))) (c.requires.late k c.in-Some.place c.in-Some.is)

pub loop-client-preserved : goal.loop-client-preserved
loop-client-preserved c =
    let old = c.args.timelines.now.clients.items in
    let at = places_in c.args.at.now in
    let k = c.loop-client.client in
    let gate = slice_index c.args.gate.now in
    let inv = c.loop-client.invariant in
    elim c.match-at-client.branch [
      | in-Some+in_ok-raise-in-Some w ↦
          let e = w.in_ok-raise-in-Some.ensures in
          subst (λ (t : Timelines). IsRaisedBelow old t.clients.items at (k + 1) gate) (sym w.timelines-is)
          (raise_more old c.loop-client.timelines.clients.items w.raise.new.self.clients.items at k w.in-Some.place gate inv w.in-Some.is e.clock e.changes e.others e.count)
      | in-None w ↦
          subst (λ (t : Timelines). IsRaisedBelow old t.clients.items at (k + 1) gate) (sym w.timelines-is)
          (raise_skips old c.loop-client.timelines.clients.items at k gate inv w.in-None.is)
    ]

pub returns-clause-clients : goal.returns-clause-clients
returns-clause-clients c = c.loop-client.invariant.clients

pub returns-clause-moved : goal.returns-clause-moved
returns-clause-moved c k p lt e = c.loop-client.invariant.moved k p (omega arith) e

pub returns-clause-others : goal.returns-clause-others
returns-clause-others c k lt e = c.loop-client.invariant.others k e

pub returns-clause-clock : goal.returns-clause-clock
returns-clause-clock c n d lt = c.loop-client.invariant.clock n d (omega arith)

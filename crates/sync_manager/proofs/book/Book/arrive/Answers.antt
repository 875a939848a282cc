use Rattle.std.proofs.Common.{Some, sym, ◌∙◌, subst, arith, set}
use Rattle.std.specs.Vec.{vec_len, vec_capacity}
use Rattle.rc_base.specs.declared.sync.WaitAt.{WaitAt}
use Rattle.sync_manager.specs.Stored.{IsSoundBook}
use Rattle.sync_manager.proofs.SoundBooks.{sound_arrived}
use Rattle.sync_manager.proofs.WaitingOperations.{standing_arrived}
use Rattle.sync_manager.proofs.book.Book.arrive.Goals as goal

pub invariant_of-self-2 : goal.invariant_of-self-2
invariant_of-self-2 c =
    let s = c.args.self.now in
    let w : WaitAt = record { place = c.args.place; op = c.args.op } in
    record {
      is_sound = subst (λ k. IsSoundBook s.clients s.counts s.units.items (set s.waiting c.args.client (Some w)) k (vec_capacity c.reserve.new.self)) (sym c.reserve.ensures.len)
          (sound_arrived s.clients s.counts s.units.items s.waiting (vec_len s.entries) (vec_capacity s.entries) s.is_sound c.args.client w (vec_capacity c.reserve.new.self)
          c.requires.client c.requires.declared (omega (arith, c.in_ok-reserve.ensures.ok, c.reserve.ensures.len)));
    }

pub returns-clause-arrived : goal.returns-clause-arrived
returns-clause-arrived c = λ syncs b h.
    let s = c.args.self.now in
    let w : WaitAt = record { place = c.args.place; op = c.args.op } in
    let r = standing_arrived syncs b s.waiting s.units.items c.args.client w (omega (arith, c.requires.client, s.is_sound.most, s.is_sound.slots)) c.requires.free h.legal h.state in
    record { counts = h.counts; clients = h.clients; declared = h.declared; state = r.1; ended = h.ended; journal = c.reserve.ensures.items ∙ h.journal; legal = r.0 }

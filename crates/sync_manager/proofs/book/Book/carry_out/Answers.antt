use Rattle.std.proofs.Common.{◌≡◌, ◌+◌, ◌++◌, ◌∷◌, [], Some, sym, ap, ◌∙◌, subst, length}
use Rattle.std.specs.Vec.{vec_len, vec_capacity}
use Rattle.rc_base.specs.Orders.Book.{standing, with_entry, is_declared, IsLegalBook}
use Rattle.rc_base.specs.Orders.Book.BookEvent.{Grants}
use Rattle.rc_base.specs.Orders.Grant.{grant}
use Rattle.rc_base.specs.declared.sync.SyncOp.{SyncOp}
use Rattle.order_model.proofs.BooksStayLegal.{books_stay_legal}
use Rattle.sync_manager.specs.Stored.{IsSoundBook, is_named}
use Rattle.sync_manager.proofs.BookGrants.{granted}
use Rattle.sync_manager.proofs.SoundBooks.{has_room, unit_there, sound_granted}
use Rattle.sync_manager.proofs.WaitingOperations.{standing_granted}
use Rattle.sync_manager.proofs.book.Book.carry_out.Goals as goal

pub move_unit-requires-clause-there : goal.move_unit-requires-clause-there
move_unit-requires-clause-there c =
    let s = c.args.self.now in
    unit_there s.clients s.counts s.units.items s.waiting (vec_len s.entries) (vec_capacity s.entries) s.is_sound c.args.entry c.requires

pub push_reserved-requires : goal.push_reserved-requires
push_reserved-requires c =
    let s = c.args.self.now in
    has_room s.clients s.counts s.units.items s.waiting (vec_len s.entries) (vec_capacity s.entries) s.is_sound c.args.entry c.requires

pub invariant_of-self : goal.invariant_of-self
invariant_of-self c =
    let s = c.args.self.now in
    let later = c.release.new.waiting in
    let moved = c.move_unit.new.units.items in
    record {
      is_sound =
          let h = sound_granted s.clients s.counts s.units.items s.waiting (vec_len s.entries) (vec_capacity s.entries) s.is_sound c.args.entry later moved c.requires
          c.release.ensures.waiting c.release.ensures.slots c.move_unit.ensures.length c.move_unit.ensures.bounded in
          subst (λ k. IsSoundBook s.clients s.counts moved later k (vec_capacity c.push_reserved.new.self)) (sym c.push_reserved.ensures.len)
          (subst (λ k. IsSoundBook s.clients s.counts moved later (vec_len s.entries + 1) k) (sym c.push_reserved.ensures.capacity) h);
    }

pub returns-clause-granted : goal.returns-clause-granted
returns-clause-granted c = λ syncs b h.
    let s = c.args.self.now in
    let e = c.args.entry in
    let g : grant syncs (standing syncs b) ≡ Some e = sym (granted syncs s b h) ∙ c.requires in
    let legal : IsLegalBook syncs (with_entry b (Some e)) = subst (λ o. IsLegalBook syncs (with_entry b o)) g (books_stay_legal syncs b (Grants ∷ []) h.legal) in
    rw g record {
      counts = h.counts;
      clients = h.clients;
      declared = subst (λ k. (o : SyncOp) → is_named (length s.counts) k o ≡ is_declared syncs o) (sym c.move_unit.ensures.length) h.declared;
      state = standing_granted syncs b s.waiting c.release.new.waiting s.units.items c.move_unit.new.units.items s.clients e h.clients h.state c.release.ensures.waiting
          c.move_unit.ensures.units;
      ended = h.ended;
      journal = c.push_reserved.ensures.items ∙ ap (λ js. js ++ e ∷ []) h.journal;
      legal = legal;
    }

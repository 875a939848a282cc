use Rattle.std.proofs.Common.{◌≡◌, None, replicate, length, sym, ◌∙◌, subst}
use Rattle.std.specs.Vec.{vec_capacity}
use Rattle.rc_base.specs.Orders.Book.{new_book, standing, is_declared}
use Rattle.rc_base.specs.declared.sync.SyncOp.{SyncOp}
use Rattle.sync_manager.specs.Stored.{IsSoundBook, is_named, state_of}
use Rattle.sync_manager.proofs.BookGrants.{declared_is, new_state, nobody_ended}
use Rattle.sync_manager.proofs.SoundBooks.{sound_new}
use Rattle.sync_manager.proofs.book.Book.new.Goals as goal

pub invariant_of-result : goal.invariant_of-result
invariant_of-result c =
    let counts : c.in_ok-counts.counts ≡ c.args.decl.now.barriers = c.in_ok-counts.ensures ∙ c.as_slice.ensures in
    let units = c.in_ok-units.units.items in
    let cap = vec_capacity c.new.result in
    record {
      is_sound = subst (λ k. IsSoundBook c.args.clients c.in_ok-counts.counts units (replicate 8 None) k cap) (sym c.new.ensures.len)
          (subst (λ xs. IsSoundBook c.args.clients xs units (replicate 8 None) 0 cap) (sym counts)
          (sound_new c.args.clients c.args.decl.now.barriers units cap c.requires.clients.0 c.requires.clients.1 c.requires.barriers c.requires.counts c.in_ok-units.ensures.bounded));
    }

pub returns-clause-book : goal.returns-clause-book
returns-clause-book c = λ syncs clients of_counts of_units.
    let counts : c.in_ok-counts.counts ≡ syncs.counts = c.in_ok-counts.ensures ∙ c.as_slice.ensures ∙ sym of_counts in
    let units : c.in_ok-units.units.items ≡ syncs.units = c.in_ok-units.ensures.items ∙ c.as_slice-2.ensures ∙ sym of_units in
    record {
      counts = counts;
      clients = sym clients;
      declared = subst (λ xs. (o : SyncOp) → is_named (length xs) (length c.in_ok-units.units.items) o ≡ is_declared syncs o) (sym counts)
          (subst (λ xs. (o : SyncOp) → is_named (length syncs.counts) (length xs) o ≡ is_declared syncs o) (sym units) (declared_is syncs));
      state = subst (λ xs. standing syncs new_book ≡ state_of (replicate 8 None) xs) (sym units) (new_state syncs);
      ended = λ client low. nobody_ended 8 client;
      journal = c.new.ensures.items;
      legal = tt;
    }

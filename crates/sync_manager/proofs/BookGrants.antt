-- What a book grants, and what a new one stands for.
use Rattle.std.proofs.Common.{◌≡◌, ℕ, ◌<◌, ◌≤◌, length, replicate, not, true≢false, Option, None, refl, sym, ap, ◌∙◌, subst}
use Rattle.std.specs.Prelude.{◌↔◌, zero, suc, true, false, Bool, Some, is_some, option_to_list, slice_index_or}
use Rattle.std.specs.Option.{unwrap_or}
use mathlib.Core.Path.{fun_ext}
use Rattle.rc_base.specs.Lists.{at_name}
use Rattle.rc_base.specs.Orders.Book.{Book as Arrivals, new_book, standing, waiting_in, is_declared, IsBookOver}
use Rattle.rc_base.specs.Orders.Grant.{grant}
use Rattle.rc_base.specs.Orders.Journal.{SyncState, head_wait, NothingIsLawful}
use Rattle.rc_base.specs.declared.sync.SyncLists.{SyncLists}
use Rattle.rc_base.specs.declared.sync.SyncOp.{SyncOp}
use Rattle.rc_base.specs.declared.sync.SyncOp.TheVariants as op
use Rattle.order_model.specs.Laws.{AreOfClients}
use Rattle.order_model.proofs.GrantsAreExact.{grant_none}
use Rattle.order_model.proofs.JournalsInTurn.{head_of_option}
use Rattle.sync_manager.specs.Stored.{wait_at, grant_at, state_of, is_named}
use Rattle.sync_manager.specs.Books.{AllWaitOrEnded, IsBookOf}
use Rattle.sync_manager.specs.declared.book.Book.{Book}
use Rattle.sync_manager.proofs.FirstEntries.{grant_is}
use Rattle.sync_manager.proofs.SoundBooks.{name_is, nobody_waits}

pub granted : (syncs : SyncLists) (kept : Book) (b : Arrivals) → IsBookOf syncs kept b → grant_at kept.counts kept.units.items kept.waiting kept.clients ≡ grant syncs (standing syncs b)
granted syncs kept b h = grant_is syncs kept.counts kept.units.items kept.waiting kept.clients h.counts h.clients ∙ sym (ap (grant syncs) h.state)

pub declared_is : (syncs : SyncLists) (o : SyncOp) → is_named (length syncs.counts) (length syncs.units) o ≡ is_declared syncs o
declared_is syncs (op.Barrier name) = name_is syncs.counts name
declared_is syncs (op.SemP name) = name_is syncs.units name
declared_is syncs (op.SemV name) = name_is syncs.units name
declared_is syncs op.Swap = refl

pub new_state : (syncs : SyncLists) → standing syncs new_book ≡ state_of (replicate 8 None) syncs.units
new_state syncs = λ i. record { rest = fun_ext (λ c. sym (ap (λ o. option_to_list o) (nobody_waits 8 c))) i; units = λ k. unwrap_or (at_name syncs.units k) 0 }

pub nobody_ended : (n client : ℕ) → slice_index_or (replicate n false) client false ≡ false
nobody_ended zero client = refl
nobody_ended (suc n) zero = refl
nobody_ended (suc n) (suc client) = nobody_ended n client

-- ---- when it is over

pub waiting_is : (syncs : SyncLists) (kept : Book) (b : Arrivals) → IsBookOf syncs kept b → (client : ℕ) → waiting_in syncs b client ≡ wait_at kept.waiting client
waiting_is syncs kept b h client = ap (λ (s : SyncState). head_wait (s.rest client)) h.state ∙ head_of_option (wait_at kept.waiting client)

of_clients : (syncs : SyncLists) (kept : Book) (b : Arrivals) → IsBookOf syncs kept b → AreOfClients syncs (standing syncs b)
of_clients syncs kept b h client le =
    ap (λ (s : SyncState). s.rest client) h.state
    ∙ ap (λ o. option_to_list o) (kept.is_sound.beyond client (subst (λ n. n ≤ client) (sym h.clients) le))

pub none_granted : (syncs : SyncLists) (kept : Book) (b : Arrivals) → IsBookOf syncs kept b
    → (grant_at kept.counts kept.units.items kept.waiting kept.clients ≡ None) ↔ NothingIsLawful syncs (standing syncs b)
none_granted syncs kept b h =
    let exact = grant_none syncs (standing syncs b) (of_clients syncs kept b h) in
    let same = granted syncs kept b h in
    (λ none. exact.0 (sym same ∙ none), λ nothing. same ∙ exact.1 nothing)

pub over_is : (syncs : SyncLists) (kept : Book) (b : Arrivals) → IsBookOf syncs kept b → AllWaitOrEnded kept → grant_at kept.counts kept.units.items kept.waiting kept.clients ≡ None → IsBookOver syncs b
over_is syncs kept b h all none = record {
  all = λ client low running.
      let low' = subst (λ n. client < n) (sym h.clients) low in
      ap is_some (waiting_is syncs kept b h client) ∙ all client low' (h.ended client low' ∙ running);
  over = (none_granted syncs kept b h).0 none;
}

pub all_wait : (syncs : SyncLists) (kept : Book) (b : Arrivals) → IsBookOf syncs kept b → IsBookOver syncs b → AllWaitOrEnded kept
all_wait syncs kept b h over = λ client low running.
    sym (ap is_some (waiting_is syncs kept b h client)) ∙ over.all client (subst (λ n. client < n) h.clients low) (sym (h.ended client low) ∙ running)

-- none is what isn't some
pub none_is : {A : Type 0} (o : Option A) (r : Bool) → is_some o ≡ not r → (r ≡ true) ↔ (o ≡ None)
none_is None true h = (λ e. refl, λ e. refl)
none_is None false h = absurd (true≢false (sym h))
none_is (Some x) true h = absurd (true≢false h)
none_is (Some x) false h = (λ e. absurd (true≢false (sym e)), λ e. absurd cc)

pub all_same : {A : Type 0} (n i : ℕ) (x : A) → slice_index_or (replicate n x) i x ≡ x
all_same zero i x = refl
all_same (suc n) zero x = refl
all_same (suc n) (suc i) x = all_same n i x

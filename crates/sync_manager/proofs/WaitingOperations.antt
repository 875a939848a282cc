-- What is left of what arrived, after an arrival and after a grant.
use Rattle.std.proofs.Common.{◌≡◌, ℕ, ◌<◌, ◌==◌, Bool, true, false, cond, List, [], ◌∷◌, ◌++◌, length, drop, set, Option, Some, None, inl, inr, refl, sym, ap, ◌∙◌, subst, append-nil, eqb-true, get_or-set_same, get_or-set_other}
use Rattle.std.proofs.lemmas.Bool.{cases_Bool, eqb-false}
use Rattle.std.specs.Prelude.{option_to_list}
use mathlib.Core.Path.{fun_ext}
use Rattle.rc_base.specs.Orders.Book.{Book, opened, standing, with_at, book_after, IsLegalBook}
use Rattle.rc_base.specs.Orders.Book.BookEvent.{Arrives}
use Rattle.rc_base.specs.Orders.Journal.{SyncState, is_member, units_after, after}
use Rattle.rc_base.specs.Orders.Sync.{client_count}
use Rattle.rc_base.specs.declared.sync.Entry.{Entry}
use Rattle.rc_base.specs.declared.sync.SyncLists.{SyncLists}
use Rattle.rc_base.specs.declared.sync.WaitAt.{WaitAt}
use Rattle.order_model.proofs.MoreOperations.{legal_more}
use Rattle.scene_lemmas.proofs.Numbered.{with_one_behind}
use Rattle.order_model.proofs.JournalsInTurn.{end_push}
use Rattle.sync_manager.specs.Stored.{wait_at, units_at, state_of}

-- states that are equal client by client and semaphore by semaphore
state_same : (s t : SyncState) → ((c : ℕ) → s.rest c ≡ t.rest c) → ((k : ℕ) → s.units k ≡ t.units k) → s ≡ t
state_same s t rest units = λ i. record { rest = fun_ext rest i; units = fun_ext units i }

-- ---- an arrival

waits_then : (waiting : List (Option WaitAt)) (client : ℕ) (w : WaitAt) (c : ℕ) → client < length waiting → wait_at waiting client ≡ None
    → option_to_list (wait_at waiting c) ++ with_at (λ k. []) client (w ∷ []) c ≡ option_to_list (wait_at (set waiting client (Some w)) c)
waits_then waiting client w c low free = elim (cases_Bool (c == client)) [
  | inl t ↦
      let e : c ≡ client = eqb-true c client t in
      rw t (ap (λ k. option_to_list (wait_at waiting k) ++ w ∷ []) e ∙ ap (λ o. option_to_list o ++ w ∷ []) free
      ∙ sym (ap (λ k. option_to_list (wait_at (set waiting client (Some w)) k)) e ∙ ap (λ o. option_to_list o) (get_or-set_same waiting client (Some w) None low)))
  | inr n ↦ rw n (append-nil (option_to_list (wait_at waiting c)) ∙ sym (ap (λ o. option_to_list o) (get_or-set_other waiting client c (Some w) None (eqb-false c client n))))
]

pub standing_arrived : (syncs : SyncLists) (b : Book) (waiting : List (Option WaitAt)) (units : List ℕ) (client : ℕ) (w : WaitAt) → client < length waiting
    → wait_at waiting client ≡ None → IsLegalBook syncs b → standing syncs b ≡ state_of waiting units
    → IsLegalBook syncs (book_after syncs b (Arrives client w)) × (standing syncs (book_after syncs b (Arrives client w)) ≡ state_of (set waiting client (Some w)) units)
standing_arrived syncs b waiting units client w low free legal is =
    let later = book_after syncs b (Arrives client w) in
    let more = legal_more syncs (opened syncs b) (opened syncs later) (with_at (λ k. []) client (w ∷ [])) b.journal record { rest = with_one_behind b.arrived client w; units = refl } legal in (
      more.0,
      state_same (standing syncs later) (state_of (set waiting client (Some w)) units)
          (λ c. more.1.rest c ∙ ap (λ (s : SyncState). s.rest c ++ with_at (λ k. []) client (w ∷ []) c) is ∙ waits_then waiting client w c low free)
          (λ k. ap (λ (f : ℕ → ℕ). f k) more.1.units ∙ ap (λ (s : SyncState). s.units k) is),
    )

-- ---- a grant

none_after : (o : Option WaitAt) → drop 1 (option_to_list o) ≡ []
none_after None = refl
none_after (Some w) = refl

released : (member : Bool) (o : Option WaitAt) → cond member (drop 1 (option_to_list o)) (option_to_list o) ≡ option_to_list (cond member None o)
released true o = none_after o
released false o = refl

pub standing_granted : (syncs : SyncLists) (b : Book) (waiting later : List (Option WaitAt)) (units moved : List ℕ) (n : ℕ) (e : Entry) → n ≡ client_count syncs
    → standing syncs b ≡ state_of waiting units → ((c : ℕ) → wait_at later c ≡ cond (is_member n e c) None (wait_at waiting c))
    → ((k : ℕ) → units_at moved k ≡ units_after e (units_at units) k) → standing syncs (record b { journal = b.journal ++ e ∷ [] }) ≡ state_of later moved
standing_granted syncs b waiting later units moved n e clients is waits counts =
    end_push syncs (opened syncs b) b.journal e ∙ ap (λ s. after syncs s e) is ∙ state_same (after syncs (state_of waiting units) e) (state_of later moved)
    (λ c. released (is_member (client_count syncs) e c) (wait_at waiting c) ∙ ap (λ o. option_to_list o) (sym (subst (λ k. wait_at later c ≡ cond (is_member k e c) None (wait_at waiting c)) clients (waits c))))
    (λ k. sym (counts k))

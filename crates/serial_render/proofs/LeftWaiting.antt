-- When no entry is granted any more: who is left waiting.
use Rattle.std.proofs.Common.{◌≡◌, ℕ, ◌+◌, ◌<◌, true, false, Bool, List, Option, Some, None, ◌↔◌, sym, ap, subst, ◌∙◌, inl, inr, arith, true≢false}
use Rattle.std.specs.Prelude.{is_some, IfSome}
use Rattle.std.specs.List.{range_with_len}
use Rattle.std.proofs.lemmas.Bool.{cases_lt}
use Rattle.std.proofs.lemmas.List.Folds.{list_any_at, Any-from_list_any}
use Rattle.std.proofs.lemmas.List.FromFn.{get_or-range_with_len, length-range_with_len}
use Rattle.rc_base.specs.Orders.Book.{opened, standing, waiting_in, IsBookOver}
use Rattle.rc_base.specs.Orders.Grant.{grant}
use Rattle.rc_base.specs.Orders.Journal.{sync_state_after, start, head_wait, waiting_of}
use Rattle.rc_base.specs.declared.sync.Entry.{Entry}
use Rattle.rc_base.specs.Orders.Sync.{client_count}
use Rattle.rc_base.specs.declared.sync.SyncLists.{SyncLists}
use Rattle.rc_base.specs.declared.sync.WaitAt.{WaitAt}
use Rattle.order_model.proofs.ClientsBeyond.{past_end, ops_past}
use Rattle.order_model.proofs.GrantsAreExact.{grant_none}
use Rattle.order_model.specs.Report.{is_stuck}
use Rattle.sync_manager.specs.Books.{IsStuck, journal_in}
use Rattle.serial_render.specs.Turns.{IsBetweenTurns, IsSomeoneLeft}
use Rattle.serial_render.specs.declared.progress.Progress.{Progress}
use Rattle.serial_render.proofs.GrantedTurns.{is_settled}
use Rattle.serial_render.proofs.TurnsOfClients.{grants_next, waits_alike}

pub left_is_stuck : (syncs : SyncLists) (p : Progress) (t : IsBetweenTurns syncs p) → grant syncs (sync_state_after syncs (journal_in p.book)) ≡ None
    → IsStuck syncs t.way.book ↔ IsSomeoneLeft syncs (journal_in p.book)
left_is_stuck syncs p t none = (
  λ k. record { client = k.client; waits = subst (λ (o : Option WaitAt). is_some o ≡ true) (waits_alike syncs p t k.client) k.waits },
  λ k. record { over = over; client = k.client; waits = subst (λ (o : Option WaitAt). is_some o ≡ true) (sym (waits_alike syncs p t k.client)) k.waits },
)
  where
    settled : (client : ℕ) → client < client_count syncs → t.way.book.ended client ≡ false → is_some (waiting_in syncs t.way.book client) ≡ true
    settled client inside running = elim (is_settled syncs p.book t.way.book t.way.is_book client inside (t.settled client inside)) [
      | inl ended ↦ absurd (let f : t.way.book.ended client ≡ false = running in cc)
      | inr waits ↦ waits
    ]

    over : IsBookOver syncs t.way.book
    over = record {
      all = settled;
      over = (grant_none syncs (standing syncs t.way.book) (past_end syncs (opened syncs t.way.book) t.way.book.journal t.way.beyond)).0 (sym (grants_next syncs p t) ∙ none);
    }

pub if_some_map : {A : Type 0} (o : Option A) (P Q : A → Type 0) → ((x : A) → P x → Q x) → IfSome o P → IfSome o Q
if_some_map None P Q f h = tt
if_some_map (Some x) P Q f h = f x h

-- a client is left waiting exactly where the journal leaves the scene stuck
pub left_means_stuck : (syncs : SyncLists) (journal : List Entry) → IsSomeoneLeft syncs journal ↔ (is_stuck syncs journal ≡ true)
left_means_stuck syncs journal = (
  there,
  λ h. let k = Any-from_list_any waits (range_with_len 0 (client_count syncs)) h in record { client = k.1; waits = k.4 },
)
  where
    waits : ℕ → Bool
    waits client = is_some (waiting_of syncs journal client)

    there : IsSomeoneLeft syncs journal → is_stuck syncs journal ≡ true
    there left = elim (cases_lt left.client (client_count syncs)) [
      | inl lt ↦
          let e : 0 + left.client ≡ left.client = omega arith in
          list_any_at waits (range_with_len 0 (client_count syncs)) left.client 0 (omega (arith, length-range_with_len 0 (client_count syncs), lt))
          (ap waits (get_or-range_with_len 0 (client_count syncs) left.client 0 lt ∙ e) ∙ left.waits)
      | inr le ↦
          let gone : waits left.client ≡ false = ap (λ ws. is_some (head_wait ws)) (past_end syncs (start syncs) journal (ops_past syncs) left.client le) in
          absurd (true≢false (sym left.waits ∙ gone))
    ]

-- What a log that replays has left: of each client's jobs those behind the cursor, of the journal the entries that it hasn't performed.
use Rattle.std.proofs.Common.{◌≡◌, ℕ, zero, suc, ◌+◌, ◌==◌, List, [], ◌∷◌, drop, inl, inr, refl, ◌∙◌, arith}
use Rattle.std.specs.Prelude.{is_some}
use Rattle.std.proofs.lemmas.Bool.{cases_Bool}
use Rattle.rc_base.specs.Orders.Journal.{SyncState, start, after, end_of, IsLegal, IsLegalFrom}
use Rattle.rc_base.specs.Orders.Order.{PlacedEntry, entry_at, entries_from}
use Rattle.rc_base.specs.declared.sync.Entry.{Entry}
use Rattle.rc_base.specs.declared.sync.SyncLists.{SyncLists}
use Rattle.order_model.specs.Laws.{AreOfClients}
use Rattle.order_model.specs.Log.{Job, AreJobsOf, without, ReplaysFrom, Replays, jobs_after, entries_after}
use Rattle.order_model.specs.Standing.{cursor_of, performed_in}
use Rattle.order_model.specs.declared.record.LogEntry.{LogEntry}
use Rattle.order_model.specs.declared.record.LogEntry.TheVariants.{Took, Performed}
use Rattle.order_model.proofs.ClientsBeyond.{past_after, ops_past}
use Rattle.order_model.proofs.OrdersBySteps.{moved, passed_by}
use Rattle.order_model.proofs.RecordedOrdersArePermitted.{Reached, took_reaches, performed_reaches}

pub drop_then : {A : Type 0} (k n : ℕ) (xs : List A) → drop k (drop n xs) ≡ drop (n + k) xs
drop_then k zero xs = let e : 0 + k ≡ k = omega arith in rw e refl
drop_then zero (suc n) [] = let e : suc n + 0 ≡ suc n = omega arith in rw e refl
drop_then (suc k) (suc n) [] = let e : suc n + suc k ≡ suc (n + suc k) = omega arith in rw e refl
drop_then k (suc n) (x ∷ xs) = let e : suc n + k ≡ suc (n + k) = omega arith in rw e (drop_then k n xs)

-- of a client's jobs
pub jobs_left : (jobs : ℕ → List Job) (ms : List PlacedEntry) (log : List LogEntry) (c : ℕ) → jobs_after jobs ms log c ≡ drop (cursor_of ms log c) (jobs c)
jobs_left jobs ms [] c = refl
jobs_left jobs ms (Took d place ∷ log) c = jobs_left (without (λ k. k == d) jobs) ms log c ∙ elim (cases_Bool (c == d)) [
  | inl t ↦ rw t (drop_then (cursor_of ms log c) 1 (jobs c))
  | inr f ↦ let e : 0 + cursor_of ms log c ≡ cursor_of ms log c = omega arith in rw (f, e) refl
]
jobs_left jobs [] (Performed ∷ log) c = jobs_left jobs [] log c
jobs_left jobs (m ∷ ms) (Performed ∷ log) c = jobs_left (without (λ k. is_some (m.at k)) jobs) ms log c ∙ elim (cases_Bool (is_some (m.at c))) [
  | inl t ↦ rw t (drop_then (cursor_of ms log c) 1 (jobs c))
  | inr f ↦ let e : 0 + cursor_of ms log c ≡ cursor_of ms log c = omega arith in rw (f, e) refl
]

-- where the log stands in the machine: at some state of it the operations that are left are those that the jobs have left, and the entries those that
-- it hasn't performed
pub record HasCome (syncs : SyncLists) (first : SyncState) (js : List Entry) (jobs : ℕ → List Job) (log : List LogEntry) : Type 0 where
  pub state : SyncState
  pub rest : List Entry
  pub cursor : ℕ → ℕ
  pub reached : Reached syncs state cursor (jobs_after jobs (entries_from syncs first js) log)
  pub entries : entries_after (entries_from syncs first js) log ≡ entries_from syncs state rest
  pub rest_is : rest ≡ drop (performed_in log) js
  pub end_is : end_of syncs state rest ≡ end_of syncs first js

come_from : (syncs : SyncLists) (s : SyncState) (cursor : ℕ → ℕ) (js : List Entry) (jobs : ℕ → List Job) (log : List LogEntry) → Reached syncs s cursor jobs → AreOfClients syncs s
    → IsLegalFrom syncs s js → ReplaysFrom jobs (entries_from syncs s js) log → HasCome syncs s js jobs log
come_from syncs s cursor js jobs [] h none legal r =
    record { state = s; rest = js; cursor = cursor; reached = h; entries = refl; rest_is = refl; end_is = refl }
come_from syncs s cursor js jobs (Took d place ∷ log) h none legal r =
    let t = took_reaches syncs s cursor jobs d place h r.0 in
    let k = come_from syncs s (moved cursor d (place + 1)) js (without (λ k. k == d) jobs) log t.2 none legal r.1 in
    record { state = k.state; rest = k.rest; cursor = k.cursor; reached = k.reached; entries = k.entries; rest_is = k.rest_is; end_is = k.end_is }
come_from syncs s cursor [] jobs (Performed ∷ log) h none legal r = absurd r
come_from syncs s cursor (e ∷ js) jobs (Performed ∷ log) h none legal r =
    let k = come_from syncs (after syncs s e) (passed_by syncs s e cursor) js (without (λ c. is_some ((entry_at syncs s e).at c)) jobs) log
    (performed_reaches syncs s cursor jobs e h legal.0 r.0) (past_after syncs s e none) legal.1 r.1 in
    record {
      state = k.state;
      rest = k.rest;
      cursor = k.cursor;
      reached = k.reached;
      entries = k.entries;
      rest_is = k.rest_is ∙ drop_then (performed_in log) 1 (e ∷ js);
      end_is = k.end_is;
    }

pub has_come : (syncs : SyncLists) (js : List Entry) (jobs : ℕ → List Job) (log : List LogEntry) → AreJobsOf syncs jobs → IsLegal syncs js → Replays syncs js jobs log
    → HasCome syncs (start syncs) js jobs log
has_come syncs js jobs log sent legal r =
    come_from syncs (start syncs) (λ c. 0) js jobs log (record { rising = sent.rising; all = sent.all }) (ops_past syncs) legal r

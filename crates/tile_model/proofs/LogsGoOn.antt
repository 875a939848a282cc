-- A log with one more line, and what holds along a log that replays.
use Rattle.std.proofs.Common.{◌≡◌, ℕ, suc, ◌+◌, ◌==◌, List, [], ◌∷◌, ◌++◌, drop, take, Some, refl, sym, ap, ◌∙◌, subst, arith, append_assoc, append-nil}
use Rattle.std.specs.Prelude.{is_some}
use Rattle.rc_base.specs.Orders.Journal.{SyncState, start, IsLawful, after, IsLegal, IsLegalFrom}
use Rattle.rc_base.specs.Orders.Order.{PlacedEntry, entry_at, entries_from, added, performed}
use Rattle.rc_base.specs.declared.sync.Entry.{Entry}
use Rattle.rc_base.specs.declared.sync.Name.{Name}
use Rattle.rc_base.specs.declared.sync.SyncLists.{SyncLists}
use Rattle.order_model.specs.Laws.{AreOfClients}
use Rattle.order_model.specs.Log.{Job, IsNext, without, ReplaysFrom, Replays, jobs_after, entries_after, logged}
use Rattle.order_model.specs.Log.Job.{Work, Wait}
use Rattle.order_model.specs.Standing.{cursor_of, performed_in}
use Rattle.order_model.specs.declared.record.LogEntry.{LogEntry}
use Rattle.order_model.specs.declared.record.LogEntry.TheVariants.{Took, Performed}
use Rattle.order_model.proofs.ClientsBeyond.{past_after, ops_past}
use Rattle.order_model.proofs.LogsLeaveJobs.{drop_then}

-- ---- one more line

pub cursor_more : (ms : List PlacedEntry) (log : List LogEntry) (l : LogEntry) (c : ℕ) → cursor_of ms (log ++ l ∷ []) c ≡ cursor_of (entries_after ms log) (l ∷ []) c + cursor_of ms log c
cursor_more ms [] l c = omega arith
cursor_more ms (Took d place ∷ log) l c = let e = cursor_more ms log l c in omega arith
cursor_more [] (Performed ∷ log) l c = cursor_more [] log l c
cursor_more (m ∷ ms) (Performed ∷ log) l c = let e = cursor_more ms log l c in omega arith

pub replays_more : (jobs : ℕ → List Job) (ms : List PlacedEntry) (log : List LogEntry) (l : LogEntry) → ReplaysFrom jobs ms log
    → ReplaysFrom (jobs_after jobs ms log) (entries_after ms log) (l ∷ []) → ReplaysFrom jobs ms (log ++ l ∷ [])
replays_more jobs ms [] l r more = more
replays_more jobs ms (Took d place ∷ log) l r more = (r.0, replays_more (without (λ k. k == d) jobs) ms log l r.1 more)
replays_more jobs [] (Performed ∷ log) l r more = absurd r
replays_more jobs (m ∷ ms) (Performed ∷ log) l r more = (r.0, replays_more (without (λ k. is_some (m.at k)) jobs) ms log l r.1 more)

-- what a parcel that is work adds to the order
pub logged_took : (syncs : SyncLists) (s : SyncState) (js : List Entry) (log : List LogEntry) (c place : ℕ) (order : List Name)
    → logged syncs s js (log ++ Took c place ∷ []) order ≡ added c (place + 1) (logged syncs s js log order)
logged_took syncs s js [] c place order = refl
logged_took syncs s js (Took d k ∷ log) c place order = logged_took syncs s js log c place (added d (k + 1) order)
logged_took syncs s [] (Performed ∷ log) c place order = logged_took syncs s [] log c place order
logged_took syncs s (e ∷ js) (Performed ∷ log) c place order = logged_took syncs (after syncs s e) js log c place (performed syncs s e order)

-- ---- along a log

-- What holds at a state of the machine, of the entries that led there, the jobs that are left and the order, and stays so where work is taken and where
-- a lawful entry is performed.
pub record GoesOn (syncs : SyncLists) (P : SyncState → List Entry → (ℕ → List Job) → List Name → Type 0) : Type 0 where
  pub took : (s : SyncState) (es : List Entry) (jobs : ℕ → List Job) (order : List Name) (client place : ℕ) → AreOfClients syncs s → P s es jobs order
      → IsNext (jobs client) (Work place) → P s es (without (λ c. c == client) jobs) (added client (place + 1) order)
  pub done : (s : SyncState) (es : List Entry) (jobs : ℕ → List Job) (order : List Name) (e : Entry) → AreOfClients syncs s → P s es jobs order → IsLawful syncs s e
      → ((c place : ℕ) → (entry_at syncs s e).at c ≡ Some place → IsNext (jobs c) (Wait place))
      → P (after syncs s e) (es ++ e ∷ []) (without (λ c. is_some ((entry_at syncs s e).at c)) jobs) (performed syncs s e order)

-- where a log that replays comes to: the state, the entries that it leaves, and what the next one adds to the order
pub record ComesTo (syncs : SyncLists) (P : SyncState → List Entry → (ℕ → List Job) → List Name → Type 0)
    (first : SyncState) (es js : List Entry) (jobs : ℕ → List Job) (log : List LogEntry) (order : List Name) : Type 0 where
  pub state : SyncState
  pub rest : List Entry
  pub none : AreOfClients syncs state
  pub legal : IsLegalFrom syncs state rest
  pub entries : entries_after (entries_from syncs first js) log ≡ entries_from syncs state rest
  pub rest_is : rest ≡ drop (performed_in log) js
  pub adds : (e : Entry) (more : List Entry) → rest ≡ e ∷ more → logged syncs first js (log ++ Performed ∷ []) order ≡ performed syncs state e (logged syncs first js log order)
  pub holds : P state (es ++ take (performed_in log) js) (jobs_after jobs (entries_from syncs first js) log) (logged syncs first js log order)

take_first : {A : Type 0} (x : A) (n : ℕ) (xs : List A) → take (1 + n) (x ∷ xs) ≡ x ∷ take n xs
take_first x n xs = let e : 1 + n ≡ suc n = omega arith in rw e refl

module _ (syncs : SyncLists) (P : SyncState → List Entry → (ℕ → List Job) → List Name → Type 0) (on : GoesOn syncs P) where
  pub along : (s : SyncState) (es js : List Entry) (jobs : ℕ → List Job) (log : List LogEntry) (order : List Name) → AreOfClients syncs s → IsLegalFrom syncs s js
      → ReplaysFrom jobs (entries_from syncs s js) log → P s es jobs order → ComesTo syncs P s es js jobs log order
  along s es js jobs [] order none legal r h = record {
    state = s;
    rest = js;
    none = none;
    legal = legal;
    entries = refl;
    rest_is = refl;
    adds = λ e more is. subst (λ k. logged syncs s k (Performed ∷ []) order ≡ performed syncs s e order) (sym is) refl;
    holds = subst (λ k. P s k jobs order) (sym (append-nil es)) h;
  }
  along s es js jobs (Took d place ∷ log) order none legal r h =
      let k = along s es js (without (λ c. c == d) jobs) log (added d (place + 1) order) none legal r.1 (on.took s es jobs order d place none h r.0) in
      record { state = k.state; rest = k.rest; none = k.none; legal = k.legal; entries = k.entries; rest_is = k.rest_is; adds = k.adds; holds = k.holds }
  along s es [] jobs (Performed ∷ log) order none legal r h = absurd r
  along s es (e ∷ js) jobs (Performed ∷ log) order none legal r h =
      let left = without (λ c. is_some ((entry_at syncs s e).at c)) jobs in
      let k = along (after syncs s e) (es ++ e ∷ []) js left log (performed syncs s e order) (past_after syncs s e none) legal.1 r.1 (on.done s es jobs order e none h legal.0 r.0) in
      record {
        state = k.state;
        rest = k.rest;
        none = k.none;
        legal = k.legal;
        entries = k.entries;
        rest_is = k.rest_is ∙ drop_then (performed_in log) 1 (e ∷ js);
        adds = k.adds;
        holds = subst (λ l. P k.state l (jobs_after left (entries_from syncs (after syncs s e) js) log) (logged syncs (after syncs s e) js log (performed syncs s e order)))
            (append_assoc es (e ∷ []) (take (performed_in log) js) ∙ ap (λ l. es ++ l) (sym (take_first e (performed_in log) js))) k.holds;
      }

  -- from the start
  pub comes_to : (js : List Entry) (jobs : ℕ → List Job) (log : List LogEntry) → IsLegal syncs js → Replays syncs js jobs log → P (start syncs) [] jobs []
      → ComesTo syncs P (start syncs) [] js jobs log []
  comes_to js jobs log legal r h = along (start syncs) [] js jobs log [] (ops_past syncs) legal r h

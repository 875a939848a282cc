-- The log of a tile that is under way replays over the parcels that it took and the entries that it learnt.
use Rattle.std.proofs.Common.{◌≡◌, ℕ, zero, suc, ◌+◌, ◌-◌, ◌≤◌, ◌==◌, Bool, true, false, cond, List, [], ◌∷◌, ◌++◌, take, drop, length, inl, inr, refl, sym, ap, ◌∙◌, subst, arith, eq-eqb, true≢false}
use Rattle.std.specs.Prelude.{is_some}
use Rattle.std.proofs.lemmas.Bool.{cases_Bool}
use mathlib.Core.Path.{fun_ext}
use Rattle.rc_base.specs.Orders.Journal.{SyncState, start, after, end_of}
use Rattle.rc_base.specs.Orders.Order.{PlacedEntry, entries_from, entries_of}
use Rattle.rc_base.specs.declared.sync.Entry.{Entry}
use Rattle.rc_base.specs.declared.sync.SyncLists.{SyncLists}
use Rattle.order_model.specs.Log.{Job, IsNext, without, ReplaysFrom, Replays}
use Rattle.order_model.specs.Log.Job.{Work, Wait}
use Rattle.order_model.specs.Standing.{Progress, IsClientAt, IsUnderWay, cursor_of, performed_in}
use Rattle.order_model.specs.declared.record.LogEntry.{LogEntry}
use Rattle.order_model.specs.declared.record.LogEntry.TheVariants.{Took, Performed}
use Rattle.order_model.proofs.JournalsInTurn.{entries_append}

-- ---- of the entries a front

fewer_entries : (jobs : ℕ → List Job) (ms more : List PlacedEntry) (log : List LogEntry) → performed_in log ≤ length ms → ReplaysFrom jobs (ms ++ more) log → ReplaysFrom jobs ms log
fewer_entries jobs ms more [] few r = tt
fewer_entries jobs ms more (Took d place ∷ log) few r = (r.0, fewer_entries (without (λ c. c == d) jobs) ms more log few r.1)
fewer_entries jobs [] more (Performed ∷ log) few r = absurd (omega arith)
fewer_entries jobs (m ∷ ms) more (Performed ∷ log) few r = (r.0, fewer_entries (without (λ c. is_some (m.at c)) jobs) ms more log (omega arith) r.1)

entries_count : (syncs : SyncLists) (s : SyncState) (es : List Entry) → length (entries_from syncs s es) ≡ length es
entries_count syncs s [] = refl
entries_count syncs s (e ∷ es) = let h = entries_count syncs (after syncs s e) es in omega arith

-- ---- of each client's jobs a front

-- the front that is left where some clients' first job is done
abbrev less_by : (ℕ → Bool) → (ℕ → ℕ) → ℕ → ℕ
less_by done taken c = cond (done c) (taken c - 1) (taken c)

front_left : (done : ℕ → Bool) (taken : ℕ → ℕ) (jobs : ℕ → List Job) → ((c : ℕ) → done c ≡ true → 1 ≤ taken c)
    → without done (λ c. take (taken c) (jobs c)) ≡ (λ c. take (less_by done taken c) (without done jobs c))
front_left done taken jobs some = fun_ext (λ c. elim (cases_Bool (done c)) [
  | inl t ↦ rw t (drop_first (taken c) (jobs c) (some c t))
  | inr f ↦ rw f refl
])
  where
    drop_first : (n : ℕ) (js : List Job) → 1 ≤ n → drop 1 (take n js) ≡ take (n - 1) (drop 1 js)
    drop_first zero js low = absurd (omega arith)
    drop_first (suc n) [] low = none (suc n - 1)
      where
        none : (k : ℕ) → [] ≡ take {A = Job} k []
        none zero = refl
        none (suc k) = refl
    drop_first (suc n) (j ∷ js) low = let e : suc n - 1 ≡ n = omega arith in rw e refl

next_of : (n : ℕ) (js : List Job) (j : Job) → 1 ≤ n → IsNext js j → IsNext (take n js) j
next_of zero js j low next = absurd (omega arith)
next_of (suc n) js j low next = (take n next.0, ap (take (suc n)) next.1)

some_taken : (b : Bool) (k n : ℕ) → b ≡ true → cond {A = ℕ} b 1 0 + k ≤ n → 1 ≤ n
some_taken true k n t le = omega arith
some_taken false k n t le = absurd (true≢false (sym t))

less_taken : (b : Bool) (k n : ℕ) → cond {A = ℕ} b 1 0 + k ≤ n → k ≤ cond {A = ℕ} b (n - 1) n
less_taken true k n le = omega arith
less_taken false k n le = omega arith

-- a log that carries out no more of each client than these is one of the fronts
fewer_jobs : (taken : ℕ → ℕ) (jobs : ℕ → List Job) (ms : List PlacedEntry) (log : List LogEntry) → ((c : ℕ) → cursor_of ms log c ≤ taken c) → ReplaysFrom jobs ms log
    → ReplaysFrom (λ c. take (taken c) (jobs c)) ms log
fewer_jobs taken jobs ms [] few r = tt
fewer_jobs taken jobs ms (Took d place ∷ log) few r =
    let done = λ (c : ℕ). c == d in
    let some : (c : ℕ) → done c ≡ true → 1 ≤ taken c = λ c t. some_taken (done c) (cursor_of ms log c) (taken c) t (few c) in (
      next_of (taken d) (jobs d) (Work place) (some d (eq-eqb d d refl)) r.0,
      subst (λ js. ReplaysFrom js ms log) (sym (front_left done taken jobs some))
          (fewer_jobs (less_by done taken) (without done jobs) ms log (λ c. less_taken (done c) (cursor_of ms log c) (taken c) (few c)) r.1),
    )
fewer_jobs taken jobs [] (Performed ∷ log) few r = absurd r
fewer_jobs taken jobs (m ∷ ms) (Performed ∷ log) few r =
    let done = λ (c : ℕ). is_some (m.at c) in
    let some : (c : ℕ) → done c ≡ true → 1 ≤ taken c = λ c t. some_taken (done c) (cursor_of ms log c) (taken c) t (few c) in (
      λ c place is. next_of (taken c) (jobs c) (Wait place) (some c (ap is_some is)) (r.0 c place is),
      subst (λ js. ReplaysFrom js ms log) (sym (front_left done taken jobs some))
          (fewer_jobs (less_by done taken) (without done jobs) ms log (λ c. less_taken (done c) (cursor_of ms log c) (taken c) (few c)) r.1),
    )

-- ---- of a tile

cursor_within : (jobs : List Job) (cursor taken : ℕ) (held closed over : Bool) → IsClientAt jobs cursor taken held closed over → cursor ≤ taken
cursor_within jobs cursor taken true closed over h = let t = h.taken_so refl in omega arith
cursor_within jobs cursor taken false true over h = let e = h.ended refl refl in let all = h.all_taken.0 refl in omega arith
cursor_within jobs cursor taken false false over h = let e = h.unheld refl refl in omega arith

pub replays_over_taken : (syncs : SyncLists) (js : List Entry) (jobs : ℕ → List Job) (p : Progress) → IsUnderWay syncs js jobs p
    → Replays syncs p.learnt (λ c. take (p.taken c) (jobs c)) p.log
replays_over_taken syncs js jobs p h =
    let whole : entries_of syncs js ≡ entries_of syncs p.learnt ++ entries_from syncs (end_of syncs (start syncs) p.learnt) h.learnt.0
    = ap (entries_of syncs) h.learnt.1 ∙ entries_append syncs (start syncs) p.learnt h.learnt.0 in
    fewer_entries (λ c. take (p.taken c) (jobs c)) (entries_of syncs p.learnt) (entries_from syncs (end_of syncs (start syncs) p.learnt) h.learnt.0) p.log
    (omega (arith, h.performed, entries_count syncs (start syncs) p.learnt))
    (subst (λ ms. ReplaysFrom (λ c. take (p.taken c) (jobs c)) ms p.log) whole
    (fewer_jobs p.taken jobs (entries_of syncs js) p.log
    (λ c. cursor_within (jobs c) (cursor_of (entries_of syncs js) p.log c) (p.taken c) (p.held c) (p.closed c) _ (h.clients c)) h.replays))

-- The recorded order of a log that replays completely is permitted.
use Rattle.std.proofs.Common.{◌≡◌, ℕ, ◌+◌, ◌-◌, ◌≤◌, ◌==◌, true, false, cond, List, [], ◌∷◌, ◌++◌, drop, map, Some, inl, inr, refl, sym, ap, ◌∙◌, subst, arith, eqb-true, append-nil, append_assoc}
use Rattle.std.specs.Prelude.{is_some, slice_get}
use Rattle.std.proofs.lemmas.Bool.{cases_Bool}
use Rattle.std.specs.Option.{option_map_or}
use Rattle.rc_base.specs.Lists.{AreRising}
use Rattle.rc_base.specs.Orders.Journal.{SyncState, start, is_member, IsLawful, after, end_of, IsLegal, IsLegalFrom, stop, head_wait}
use Rattle.rc_base.specs.Orders.Order.{IsPermitted, entry_at, entries_from, all_added, names_from, performed}
use Rattle.rc_base.specs.Orders.Sync.{IsWellFormed, client_count, length_of, places_of}
use Rattle.rc_base.specs.declared.sync.Entry.{Entry}
use Rattle.rc_base.specs.declared.sync.Name.{Name}
use Rattle.rc_base.specs.declared.sync.SyncLists.{SyncLists}
use Rattle.rc_base.specs.declared.sync.WaitAt.{WaitAt}
use Rattle.order_model.specs.Laws.{AreOfClients}
use Rattle.order_model.specs.Log.{Job, waits_in, AreJobsOf, IsNext, without, ReplaysFrom, Replays, entries_after, IsComplete, IsLawfulRecord, logged, recorded_order, job_place}
use Rattle.order_model.specs.Log.Job.{Work, Wait}
use Rattle.order_model.specs.declared.record.LogEntry.{LogEntry}
use Rattle.order_model.specs.declared.record.LogEntry.TheVariants.{Took, Performed}
use Rattle.order_model.specs.declared.record.Record.{Record}
use Rattle.order_model.proofs.AddedNames.{Tracks, added_is, stretch_tracks, spread_is, spread_tracks}
use Rattle.order_model.proofs.ClientsBeyond.{ops_past, past_after}
use Rattle.order_model.proofs.OrdersBySteps.{Step, moved, raised, behind, passed_by, performed_by, spread, order_of, IsRight}
use Rattle.order_model.proofs.OrdersBySteps.Step.{Upto, Perform, Issue}
use Rattle.order_model.proofs.SpreadIsRun.{raised_is, passed_is}
use Rattle.order_model.proofs.StepsArePermitted.{passed_behind, member_place, performed_past, steps_permitted}

-- the first of these numbers, else another one
abbrev first_or : List ℕ → ℕ → ℕ
first_or [] n = n
first_or (p ∷ ps) n = p

first_place : (ws : List WaitAt) (n : ℕ) → first_or (places_of ws) n ≡ option_map_or (λ (w : WaitAt). w.place) (head_wait ws) n
first_place [] n = refl
first_place (w ∷ ws) n = refl

places_drop : (ws : List WaitAt) → drop 1 (places_of ws) ≡ places_of (drop 1 ws)
places_drop [] = refl
places_drop (w ∷ ws) = refl

jobs_le : (p : ℕ) (jobs : List Job) (n : ℕ) → AreRising p (map job_place jobs) n → p ≤ first_or (waits_in jobs) n
jobs_le p [] n h = h
jobs_le p (Work q ∷ jobs) n h = omega (arith, h.0, jobs_le (q + 1) jobs n h.2)
jobs_le p (Wait q ∷ jobs) n h = h.0

-- how far a tile is
pub record Reached (syncs : SyncLists) (s : SyncState) (cursor : ℕ → ℕ) (jobs : ℕ → List Job) : Type 0 where
  pub rising : (c : ℕ) → AreRising (cursor c) (map job_place (jobs c)) (length_of syncs c)
  pub all : (c : ℕ) → waits_in (jobs c) ≡ places_of (s.rest c)

-- the operations that are left begin where the machine stands
stop_is : (syncs : SyncLists) (s : SyncState) (c : ℕ) (jobs : List Job) → waits_in jobs ≡ places_of (s.rest c) → first_or (waits_in jobs) (length_of syncs c) ≡ stop syncs s c
stop_is syncs s c jobs h = ap (λ ps. first_or ps (length_of syncs c)) h ∙ first_place (s.rest c) (length_of syncs c)

least : (syncs : SyncLists) (s : SyncState) (cursor : ℕ → ℕ) (jobs : ℕ → List Job) → Reached syncs s cursor jobs → (c : ℕ) → cursor c ≤ stop syncs s c
least syncs s cursor jobs h c = omega (arith, jobs_le (cursor c) (jobs c) (length_of syncs c) (h.rising c), stop_is syncs s c (jobs c) (h.all c))

-- some work is taken
pub took_reaches : (syncs : SyncLists) (s : SyncState) (cursor : ℕ → ℕ) (jobs : ℕ → List Job) (c p : ℕ) → Reached syncs s cursor jobs → IsNext (jobs c) (Work p)
    → (cursor c ≤ p + 1) × (p + 1 ≤ stop syncs s c) × Reached syncs s (moved cursor c (p + 1)) (without (λ d. d == c) jobs)
took_reaches syncs s cursor jobs c p h next =
    let first : AreRising (cursor c) (map job_place (Work p ∷ next.0)) (length_of syncs c) = subst (λ js. AreRising (cursor c) (map job_place js) (length_of syncs c)) next.1 (h.rising c) in
    let rest : waits_in next.0 ≡ places_of (s.rest c) = sym (ap waits_in next.1) ∙ h.all c in
    let tail : drop 1 (jobs c) ≡ next.0 = ap (drop 1) next.1 in (
      omega (arith, first.0),
      omega (arith, jobs_le (p + 1) next.0 (length_of syncs c) first.2, stop_is syncs s c next.0 rest),
      record {
        rising = λ d. elim (cases_Bool (d == c)) [
          | inl t ↦ let e = eqb-true d c t in rw t (subst (λ k. AreRising (p + 1) (map job_place (drop 1 (jobs k))) (length_of syncs k)) (sym e) (subst (λ js. AreRising (p + 1) (map job_place js) (length_of syncs c)) (sym tail) first.2))
          | inr f ↦ rw f (h.rising d)
        ];
        all = λ d. elim (cases_Bool (d == c)) [
          | inl t ↦ let e = eqb-true d c t in rw t (subst (λ k. waits_in (drop 1 (jobs k)) ≡ places_of (s.rest k)) (sym e) (ap waits_in tail ∙ rest))
          | inr f ↦ rw f (h.all d)
        ];
      },
    )

pub some_at : (syncs : SyncLists) (s : SyncState) (e : Entry) → IsLawful syncs s e → (c : ℕ) → is_member (client_count syncs) e c ≡ true → is_some ((entry_at syncs s e).at c) ≡ true
some_at syncs s e p c t = ap is_some (member_place syncs s e p c t)

pub none_at : (syncs : SyncLists) (s : SyncState) (e : Entry) (c : ℕ) → is_member (client_count syncs) e c ≡ false → is_some ((entry_at syncs s e).at c) ≡ false
none_at syncs s e c f = rw f refl

-- the jobs that are left, by who is a member
pub jobs_without : (syncs : SyncLists) (s : SyncState) (e : Entry) → IsLawful syncs s e → (jobs : ℕ → List Job) (c : ℕ)
    → without (λ d. is_some ((entry_at syncs s e).at d)) jobs c ≡ cond (is_member (client_count syncs) e c) (drop 1 (jobs c)) (jobs c)
jobs_without syncs s e p jobs c = elim (cases_Bool (is_member (client_count syncs) e c)) [
  | inl t ↦ ap (λ b. cond b (drop 1 (jobs c)) (jobs c)) (some_at syncs s e p c t ∙ sym t)
  | inr f ↦ ap (λ b. cond b (drop 1 (jobs c)) (jobs c)) (none_at syncs s e c f ∙ sym f)
]

-- an entry is performed
pub performed_reaches : (syncs : SyncLists) (s : SyncState) (cursor : ℕ → ℕ) (jobs : ℕ → List Job) (e : Entry) → Reached syncs s cursor jobs → IsLawful syncs s e
    → ((c place : ℕ) → (entry_at syncs s e).at c ≡ Some place → IsNext (jobs c) (Wait place))
    → Reached syncs (after syncs s e) (passed_by syncs s e cursor) (without (λ c. is_some ((entry_at syncs s e).at c)) jobs)
performed_reaches syncs s cursor jobs e h p next = record {
  rising = λ d. subst (λ js. AreRising (passed_by syncs s e cursor d) (map job_place js) (length_of syncs d)) (sym (jobs_without syncs s e p jobs d)) (elim (cases_Bool (is_member (client_count syncs) e d)) [
    | inl t ↦
        let n = next d (stop syncs s d) (member_place syncs s e p d t) in
        let first : AreRising (cursor d) (map job_place (Wait (stop syncs s d) ∷ n.0)) (length_of syncs d) = subst (λ js. AreRising (cursor d) (map job_place js) (length_of syncs d)) n.1 (h.rising d) in
        subst (λ k. AreRising k (map job_place (cond (is_member (client_count syncs) e d) (drop 1 (jobs d)) (jobs d))) (length_of syncs d)) (sym (passed_behind syncs s e cursor d (least syncs s cursor jobs h d) t))
        (rw t (subst (λ js. AreRising (stop syncs s d + 1) (map job_place js) (length_of syncs d)) (sym (ap (drop 1) n.1)) first.2))
    | inr f ↦ rw f (h.rising d)
  ]);
  all = λ d. ap waits_in (jobs_without syncs s e p jobs d) ∙ elim (cases_Bool (is_member (client_count syncs) e d)) [
    | inl t ↦
        let n = next d (stop syncs s d) (member_place syncs s e p d t) in
        let rest : places_of (s.rest d) ≡ stop syncs s d ∷ waits_in n.0 = sym (h.all d) ∙ ap waits_in n.1 in
        rw t (ap (λ js. waits_in (drop 1 js)) n.1 ∙ sym (ap (drop 1) rest) ∙ places_drop (s.rest d))
    | inr f ↦ rw f (h.all d)
  ];
}

-- ---- the steps of a log

-- a line of the log is a step, and at the end each client issues its rest
abbrev steps_of : SyncLists → SyncState → List Entry → List LogEntry → List Step
steps_of syncs s js [] = Issue (λ c. true) ∷ []
steps_of syncs s js (Took c p ∷ log) = Upto c (p + 1) ∷ steps_of syncs s js log
steps_of syncs s [] (Performed ∷ log) = []
steps_of syncs s (e ∷ js) (Performed ∷ log) = Perform ∷ steps_of syncs (after syncs s e) js log

none_left : (syncs : SyncLists) (s : SyncState) (js : List Entry) → entries_from syncs s js ≡ [] → js ≡ []
none_left syncs s [] h = refl
none_left syncs s (e ∷ js) h = absurd cc

right_log : (syncs : SyncLists) (s : SyncState) (cursor : ℕ → ℕ) (jobs : ℕ → List Job) (js : List Entry) (log : List LogEntry) → Reached syncs s cursor jobs → AreOfClients syncs s → IsLegalFrom syncs s js
    → ReplaysFrom jobs (entries_from syncs s js) log → entries_after (entries_from syncs s js) log ≡ [] → IsRight syncs s cursor js (steps_of syncs s js log)
right_log syncs s cursor jobs js [] h none legal r done =
    (none_left syncs s js done, λ c. passed_is (λ d. true) (stop syncs s) cursor c (least syncs s cursor jobs h c) refl)
right_log syncs s cursor jobs js (Took c p ∷ log) h none legal r done =
    let t = took_reaches syncs s cursor jobs c p h r.0 in
    (t.0, t.1, subst (λ g. IsRight syncs s g js (steps_of syncs s js log)) (raised_is cursor c (p + 1) t.0) (right_log syncs s (moved cursor c (p + 1)) (without (λ d. d == c) jobs) js log t.2 none legal r.1 done))
right_log syncs s cursor jobs [] (Performed ∷ log) h none legal r done = absurd r
right_log syncs s cursor jobs (e ∷ js) (Performed ∷ log) h none legal r done =
    right_log syncs (after syncs s e) (passed_by syncs s e cursor) (without (λ c. is_some ((entry_at syncs s e).at c)) jobs) js log
    (performed_reaches syncs s cursor jobs e h legal.0 r.0) (past_after syncs s e none) legal.1 r.1 done

-- they make the recorded order
made_log : (syncs : SyncLists) (s : SyncState) (cursor : ℕ → ℕ) (jobs : ℕ → List Job) (js : List Entry) (log : List LogEntry) (o : List Name) → AreOfClients syncs s → IsLegalFrom syncs s js
    → ReplaysFrom jobs (entries_from syncs s js) log → entries_after (entries_from syncs s js) log ≡ [] → Tracks o cursor
    → all_added (λ c. true) (stop syncs (end_of syncs s js)) (client_count syncs) (logged syncs s js log o) ≡ o ++ order_of syncs s cursor js (steps_of syncs s js log)
made_log syncs s cursor jobs [] [] o none legal r done h =
    spread_is (λ c. true) (stop syncs s) cursor (client_count syncs) o h ∙ ap (λ x. o ++ x) (sym (append-nil (spread (λ c. true) (stop syncs s) cursor (client_count syncs))))
made_log syncs s cursor jobs (e ∷ js) [] o none legal r done h = absurd cc
made_log syncs s cursor jobs js (Took c p ∷ log) o none legal r done h =
    let names = names_from c (cursor c) (p + 1 - cursor c) in
    let rest = order_of syncs s (raised cursor c (p + 1)) js (steps_of syncs s js log) in
    ap (λ x. all_added (λ d. true) (stop syncs (end_of syncs s js)) (client_count syncs) (logged syncs s js log x)) (added_is c (p + 1) o cursor h)
    ∙ made_log syncs s (raised cursor c (p + 1)) (without (λ d. d == c) jobs) js log (o ++ names) none legal r.1 done (stretch_tracks c (p + 1) o cursor h)
    ∙ append_assoc o names rest
made_log syncs s cursor jobs [] (Performed ∷ log) o none legal r done h = absurd r
made_log syncs s cursor jobs (e ∷ js) (Performed ∷ log) o none legal r done h =
    let s' = after syncs s e in
    let n = client_count syncs in
    let ones = performed_by syncs s e cursor n in
    let mid = passed_by syncs s e cursor in
    let rest = order_of syncs s' mid js (steps_of syncs s' js log) in
    let first : performed syncs s e o ≡ o ++ ones = spread_is (is_member n e) (behind syncs s) cursor n o h in
    let h' : Tracks (o ++ ones) mid = spread_tracks (is_member n e) (behind syncs s) cursor n o h (performed_past syncs s e cursor none legal.0) in
    ap (λ x. all_added (λ d. true) (stop syncs (end_of syncs s' js)) n (logged syncs s' js log x)) first
    ∙ made_log syncs s' mid (without (λ c. is_some ((entry_at syncs s e).at c)) jobs) js log (o ++ ones) (past_after syncs s e none) legal.1 r.1 done h'
    ∙ append_assoc o ones rest

pub recorded_order_permitted : (syncs : SyncLists) (js : List Entry) (jobs : ℕ → List Job) (log : List LogEntry) → IsWellFormed syncs → IsLegal syncs js → AreJobsOf syncs jobs
    → Replays syncs js jobs log → IsComplete syncs js jobs log → IsPermitted syncs js (recorded_order syncs js log)
recorded_order_permitted syncs js jobs log well legal sent r complete =
    let s = start syncs in
    let h : Reached syncs s (λ c. 0) jobs = record { rising = sent.rising; all = sent.all } in
    let zeros : Tracks [] (λ c. 0) = λ c. refl in
    subst (IsPermitted syncs js) (sym (made_log syncs s (λ c. 0) jobs js log [] (ops_past syncs) legal r complete.entries zeros))
    (steps_permitted syncs js (steps_of syncs s js log) well legal (right_log syncs s (λ c. 0) jobs js log h (ops_past syncs) legal r complete.entries))

pub lawful_record_permitted : (syncs : SyncLists) (tiles : ℕ) (jobs : ℕ → ℕ → List Job) (kept : Record) → IsWellFormed syncs → ((tile : ℕ) → AreJobsOf syncs (λ client. jobs client tile))
    → IsLawfulRecord syncs tiles jobs kept → (tile : ℕ) (log : List LogEntry) → slice_get kept.logs tile ≡ Some log
    → IsPermitted syncs kept.journal (recorded_order kept.syncs kept.journal log)
lawful_record_permitted syncs tiles jobs kept well sent h tile log is =
    subst (λ l. IsPermitted syncs kept.journal (recorded_order l kept.journal log)) (sym h.lists)
    (recorded_order_permitted syncs kept.journal (λ client. jobs client tile) log well h.maximal.0 (sent tile) (h.replays tile log is) (h.complete tile log is))

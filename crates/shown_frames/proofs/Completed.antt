-- A log that replays over a legal journal goes on until it is complete: each client's work before its next operation is taken, then the next entry is performed.
use Rattle.std.proofs.Common.{◌≡◌, ℕ, zero, suc, ◌+◌, ◌<◌, ◌≤◌, ◌==◌, true, false, List, [], ◌∷◌, ◌++◌, drop, map, Option, Some, None, inl, inr, refl, sym, ap, ◌∙◌, subst, arith, eq-eqb, ne_eqb}
use Rattle.std.specs.Prelude.{is_some, option_map}
use Rattle.std.proofs.lemmas.Bool.{cases_lt, cases_Bool}
use Rattle.rc_base.specs.Lists.{AreRising}
use Rattle.rc_base.specs.Orders.Journal.{SyncState, head_wait, is_member, after, end_of, IsLegalFrom}
use Rattle.rc_base.specs.Orders.Order.{entry_at, entries_from}
use Rattle.rc_base.specs.Orders.Sync.{client_count, places_of}
use Rattle.rc_base.specs.declared.sync.Entry.{Entry}
use Rattle.rc_base.specs.declared.sync.SyncLists.{SyncLists}
use Rattle.rc_base.specs.declared.sync.WaitAt.{WaitAt}
use Rattle.order_model.specs.Laws.{AreOfClients}
use Rattle.order_model.specs.Log.{Job, job_place, waits_in, IsNext, without, ReplaysFrom, jobs_after, entries_after, StandsAt}
use Rattle.order_model.specs.Log.Job.{Work, Wait}
use Rattle.order_model.specs.declared.record.LogEntry.{LogEntry}
use Rattle.order_model.specs.declared.record.LogEntry.TheVariants.{Took, Performed}
use Rattle.order_model.proofs.ClientsBeyond.{past_after, length_past}
use Rattle.order_model.proofs.OrdersBySteps.{moved, passed_by}
use Rattle.order_model.proofs.RecordedOrdersArePermitted.{Reached, took_reaches, performed_reaches}

module _ (syncs : SyncLists) where
  -- from a state on the log replays over the entries that are left, performs them all, and leaves each client where they leave it
  pub record IsWholeFrom (s : SyncState) (js : List Entry) (jobs : ℕ → List Job) (log : List LogEntry) : Type 0 where
    pub replays : ReplaysFrom jobs (entries_from syncs s js) log
    pub entries : entries_after (entries_from syncs s js) log ≡ []
    pub clients : (c : ℕ) → StandsAt (jobs_after jobs (entries_from syncs s js) log c) (head_wait ((end_of syncs s js).rest c))

  abbrev pub GoesOn : SyncState → List Entry → (ℕ → List Job) → Type 0
  GoesOn s js jobs = (more : List LogEntry) × IsWholeFrom s js jobs more

  -- ---- one client's work

  no_places : (ws : List WaitAt) → places_of ws ≡ [] → head_wait ws ≡ None
  no_places [] e = refl
  no_places (w ∷ ws) e = absurd cc

  first_wait : (ws : List WaitAt) (p : ℕ) (ps : List ℕ) → places_of ws ≡ p ∷ ps → (w : WaitAt) × (head_wait ws ≡ Some w) × (w.place ≡ p)
  first_wait [] p ps e = absurd cc
  first_wait (w ∷ ws) p ps e = let same : w.place ≡ p = cc in (w, refl, same)

  -- a client without work before its next operation stands at it
  stands_none : (s : SyncState) (c : ℕ) (jobs : List Job) → waits_in jobs ≡ places_of (s.rest c) → jobs ≡ [] → StandsAt jobs (head_wait (s.rest c))
  stands_none s c jobs all e = subst (λ o. StandsAt jobs o) (sym (no_places (s.rest c) (sym all ∙ ap waits_in e))) e

  stands_wait : (s : SyncState) (c : ℕ) (jobs : List Job) (p : ℕ) (rest : List Job) → waits_in jobs ≡ places_of (s.rest c) → jobs ≡ Wait p ∷ rest → StandsAt jobs (head_wait (s.rest c))
  stands_wait s c jobs p rest all e =
      let first = first_wait (s.rest c) p (waits_in rest) (sym all ∙ ap waits_in e) in
      subst (λ o. StandsAt jobs o) (sym first.1) (rest, e ∙ ap (λ k. Wait k ∷ rest) (sym first.2))

  -- clients beyond the last one have no jobs
  none_rise : (p : ℕ) (js : List Job) → AreRising p (map job_place js) 0 → js ≡ []
  none_rise p [] h = refl
  none_rise p (Work q ∷ js) h = absurd (let b = h.1 in omega (arith, b))
  none_rise p (Wait q ∷ js) h = absurd (let b = h.1 in omega (arith, b))

  stands_past : (s : SyncState) (cursor : ℕ → ℕ) (jobs : ℕ → List Job) → Reached syncs s cursor jobs → (c : ℕ) → client_count syncs ≤ c → StandsAt (jobs c) (head_wait (s.rest c))
  stands_past s cursor jobs h c le =
      stands_none s c (jobs c) (h.all c) (none_rise (cursor c) (jobs c) (subst (λ n. AreRising (cursor c) (map job_place (jobs c)) n) (length_past syncs c le) (h.rising c)))

  -- the first n clients stand at their next operations
  abbrev Stand : SyncState → ℕ → (ℕ → List Job) → Type 0
  Stand s n jobs = (c : ℕ) → c < n → StandsAt (jobs c) (head_wait (s.rest c))

  module _ (s : SyncState) (js : List Entry) where
    -- what goes on from wherever the first n clients stand
    abbrev OnceTheyStand : ℕ → Type 0
    OnceTheyStand n = (cursor : ℕ → ℕ) (jobs : ℕ → List Job) → Reached syncs s cursor jobs → Stand s n jobs → GoesOn s js jobs

    -- one job of a client is taken
    take_one : (cursor : ℕ → ℕ) (jobs : ℕ → List Job) (c p : ℕ) → IsNext (jobs c) (Work p) → GoesOn s js (without (λ d. d == c) jobs) → GoesOn s js jobs
    take_one cursor jobs c p next k =
        (Took c p ∷ k.0, record { replays = (next, k.1.replays); entries = k.1.entries; clients = k.1.clients })

    -- a client's work before its next operation is taken
    take_work : (n : ℕ) → OnceTheyStand (suc n) → (cursor : ℕ → ℕ) (jobs : ℕ → List Job) → Reached syncs s cursor jobs → Stand s n jobs
        → (own : List Job) → jobs n ≡ own → GoesOn s js jobs
    take_work n k cursor jobs h stand [] e =
        k cursor jobs h (λ c lt. elim (cases_lt c n) [
          | inl low ↦ stand c low
          | inr ge ↦ let same : n ≡ c = omega (arith, lt, ge) in subst (λ d. StandsAt (jobs d) (head_wait (s.rest d))) same (stands_none s n (jobs n) (h.all n) e)
        ])
    take_work n k cursor jobs h stand (Wait p ∷ rest) e =
        k cursor jobs h (λ c lt. elim (cases_lt c n) [
          | inl low ↦ stand c low
          | inr ge ↦ let same : n ≡ c = omega (arith, lt, ge) in subst (λ d. StandsAt (jobs d) (head_wait (s.rest d))) same (stands_wait s n (jobs n) p rest (h.all n) e)
        ])
    take_work n k cursor jobs h stand (Work p ∷ rest) e =
        let next : IsNext (jobs n) (Work p) = (rest, e) in
        let left : ℕ → List Job = without (λ d. d == n) jobs in
        let own : (n == n) ≡ true = eq-eqb n n refl in
        let mine : left n ≡ rest = rw own (ap (drop 1) e) in
        take_one cursor jobs n p next (take_work n k (moved cursor n (p + 1)) left (took_reaches syncs s cursor jobs n p h next).2 (λ c low.
        let other : (c == n) ≡ false = ne_eqb c n (λ same. (omega (arith, same, low))) in
        let theirs : left c ≡ jobs c = rw other refl in
        subst (λ xs. StandsAt xs (head_wait (s.rest c))) (sym theirs) (stand c low)) rest mine)

    -- so that of the first n
    take_all_work : (n : ℕ) → OnceTheyStand n → (cursor : ℕ → ℕ) (jobs : ℕ → List Job) → Reached syncs s cursor jobs → GoesOn s js jobs
    take_all_work zero k cursor jobs h = k cursor jobs h (λ c lt. absurd (omega (arith, lt)))
    take_all_work (suc n) k cursor jobs h =
        take_all_work n (λ cursor' jobs' h' stand'. take_work n k cursor' jobs' h' stand' (jobs' n) refl) cursor jobs h

  -- ---- entries

  place_waits : (s : SyncState) (e : Entry) (c place : ℕ) (jobs : List Job) → StandsAt jobs (head_wait (s.rest c)) → (entry_at syncs s e).at c ≡ Some place → IsNext jobs (Wait place)
  place_waits s e c place jobs stand is = elim (cases_Bool (is_member (client_count syncs) e c)) [
    | inl t ↦ go (head_wait (s.rest c)) stand (sym (let z : (entry_at syncs s e).at c ≡ option_map (λ (w : WaitAt). w.place) (head_wait (s.rest c)) = rw t refl in z) ∙ is)
    | inr f ↦ absurd (let z : (entry_at syncs s e).at c ≡ None = rw f refl in cc (z, is))
  ]
    where
      go : (o : Option WaitAt) → StandsAt jobs o → option_map (λ (w : WaitAt). w.place) o ≡ Some place → IsNext jobs (Wait place)
      go None h e = absurd cc
      go (Some w) h e = let same : w.place ≡ place = cc in subst (λ k. IsNext jobs (Wait k)) same h

  -- where all clients stand, the entries are performed one after the other
  pub whole_from : (s : SyncState) (cursor : ℕ → ℕ) (js : List Entry) (jobs : ℕ → List Job) → Reached syncs s cursor jobs → AreOfClients syncs s → IsLegalFrom syncs s js → GoesOn s js jobs
  whole_from s cursor [] jobs h none legal =
      take_all_work s [] (client_count syncs) (λ cursor' jobs' h' stand'. (
        [],
        record {
          replays = tt;
          entries = refl;
          clients = λ c. elim (cases_lt c (client_count syncs)) [ inl lt ↦ stand' c lt | inr ge ↦ stands_past s cursor' jobs' h' c ge ];
        },
      )) cursor jobs h
  whole_from s cursor (e ∷ js) jobs h none legal =
      take_all_work s (e ∷ js) (client_count syncs) (λ cursor' jobs' h' stand'.
      let all : (c : ℕ) → StandsAt (jobs' c) (head_wait (s.rest c)) =
      λ c. elim (cases_lt c (client_count syncs)) [ inl lt ↦ stand' c lt | inr ge ↦ stands_past s cursor' jobs' h' c ge ] in
      let nexts : (c place : ℕ) → (entry_at syncs s e).at c ≡ Some place → IsNext (jobs' c) (Wait place) = λ c place is. place_waits s e c place (jobs' c) (all c) is in
      let k = whole_from (after syncs s e) (passed_by syncs s e cursor') js (without (λ c. is_some ((entry_at syncs s e).at c)) jobs')
      (performed_reaches syncs s cursor' jobs' e h' legal.0 nexts) (past_after syncs s e none) legal.1 in
      (Performed ∷ k.0, record { replays = (nexts, k.1.replays); entries = k.1.entries; clients = k.1.clients })) cursor jobs h

  -- ---- logs

  -- a log that replays goes on until it is whole
  pub completed_from : (s : SyncState) (cursor : ℕ → ℕ) (js : List Entry) (jobs : ℕ → List Job) (log : List LogEntry) → Reached syncs s cursor jobs → AreOfClients syncs s
      → IsLegalFrom syncs s js → ReplaysFrom jobs (entries_from syncs s js) log → (more : List LogEntry) × IsWholeFrom s js jobs (log ++ more)
  completed_from s cursor js jobs [] h none legal r = whole_from s cursor js jobs h none legal
  completed_from s cursor js jobs (Took d place ∷ log) h none legal r =
      let t = took_reaches syncs s cursor jobs d place h r.0 in
      let k = completed_from s (moved cursor d (place + 1)) js (without (λ c. c == d) jobs) log t.2 none legal r.1 in
      (k.0, record { replays = (r.0, k.1.replays); entries = k.1.entries; clients = k.1.clients })
  completed_from s cursor [] jobs (Performed ∷ log) h none legal r = absurd r
  completed_from s cursor (e ∷ js) jobs (Performed ∷ log) h none legal r =
      let k = completed_from (after syncs s e) (passed_by syncs s e cursor) js (without (λ c. is_some ((entry_at syncs s e).at c)) jobs) log
      (performed_reaches syncs s cursor jobs e h legal.0 r.0) (past_after syncs s e none) legal.1 r.1 in
      (k.0, record { replays = (r.0, k.1.replays); entries = k.1.entries; clients = k.1.clients })

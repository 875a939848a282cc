-- Logs that are cut where a tile performs a Swap: up to there they replay over the cut streams, and they are complete.
use Rattle.std.proofs.Common.{◌≡◌, ℕ, zero, suc, ◌+◌, ◌≤◌, ◌==◌, Bool, true, false, cond, List, [], ◌∷◌, ◌++◌, drop, map, Option, Some, None, inl, inr, refl, sym, ap, ◌∙◌, subst, arith, ◌⊎◌, eqb-true}
use Rattle.std.specs.Prelude.{is_some}
use Rattle.std.proofs.lemmas.Bool.{cases_lt}
use Rattle.rc_base.specs.Lists.{AreRising}
use Rattle.rc_base.specs.Orders.Journal.{SyncState, head_wait, is_member, after, end_of, IsLegalFrom}
use Rattle.rc_base.specs.Orders.Order.{entry_at, entries_from}
use Rattle.rc_base.specs.Orders.Sync.{client_count, length_of, places_of}
use Rattle.rc_base.specs.declared.sync.Entry.{Entry}
use Rattle.rc_base.specs.declared.sync.SyncLists.{SyncLists}
use Rattle.rc_base.specs.declared.sync.WaitAt.{WaitAt}
use Rattle.plain_lemmas.proofs.Lists.{both_empty}
use Rattle.order_model.specs.Laws.{AreOfClients}
use Rattle.order_model.specs.Log.{Job, job_place, waits_in, IsNext, without, ReplaysFrom, jobs_after, entries_after, StandsAt}
use Rattle.order_model.specs.Log.Job.{Work, Wait}
use Rattle.order_model.specs.Report.{is_swap_entry}
use Rattle.order_model.specs.declared.record.LogEntry.{LogEntry}
use Rattle.order_model.specs.declared.record.LogEntry.TheVariants.{Took, Performed}
use Rattle.order_model.proofs.ClientsBeyond.{past_after, length_past}
use Rattle.order_model.proofs.OrdersBySteps.{moved, passed_by}
use Rattle.order_model.proofs.RecordedOrdersArePermitted.{Reached, took_reaches, performed_reaches}
use Rattle.show_fronts.specs.Fronts.{swaps_behind, front_journal, front_log}
use Rattle.show_fronts.proofs.FrontJournals.{front_ops, swap_count, front_none, one_swap, last_member, AreCut, IsCutAt, heads_alike, at_alike, cut_lawful, cut_step, count_step, last_stop}

-- the cut streams' jobs come first, and others only where k Swaps are still to come
pub record Parts (k : ℕ) (s : SyncState) (jobs first more : ℕ → List Job) : Type 0 where
  pub whole : (c : ℕ) → jobs c ≡ first c ++ more c
  pub none : (c : ℕ) → (more c ≡ []) ⊎ (k ≤ swap_count (s.rest c))

-- nothing is left from the end on
nothing_rises : (p : ℕ) (js : List Job) (n : ℕ) → AreRising p (map job_place js) n → n ≤ p → js ≡ []
nothing_rises p [] n h le = refl
nothing_rises p (Work q ∷ js) n h le = absurd (let a = h.0 in let b = h.1 in omega (arith, a, b, le))
nothing_rises p (Wait q ∷ js) n h le = absurd (let a = h.0 in let b = h.1 in omega (arith, a, b, le))

no_places : (ws : List WaitAt) → places_of ws ≡ [] → ws ≡ []
no_places [] e = refl
no_places (w ∷ ws) e = absurd cc

no_cut : (k : ℕ) (ws : List WaitAt) → front_ops (suc k) ws ≡ [] → ws ≡ []
no_cut k [] e = refl
no_cut k (w ∷ ws) e = absurd cc

-- one job fewer
fewer : (b : Bool) (j : Job) (jobs first more : List Job) → (b ≡ true → IsNext first j) → jobs ≡ first ++ more → cond b (drop 1 jobs) jobs ≡ cond b (drop 1 first) first ++ more
fewer false j jobs first more some e = e
fewer true j jobs first more some e =
    let next = some refl in
    ap (drop 1) (e ∙ ap (λ x. x ++ more) next.1) ∙ sym (ap (λ x. drop 1 x ++ more) next.1)

module _ (n : ℕ) (syncs cut : SyncLists) (h : AreCut n syncs cut) where
  -- the next job is one of the cut stream's
  some_job : (k : ℕ) (s t : SyncState) (cursor : ℕ → ℕ) (jobs first more : ℕ → List Job) → IsCutAt syncs cut (suc k) s t → Reached cut t cursor first → Parts (suc k) s jobs first more
      → (c : ℕ) (j : Job) → IsNext (jobs c) j → IsNext (first c) j
  some_job k s t cursor jobs first more r reached parts c j next = go (first c) refl
    where
      go : (js : List Job) → first c ≡ js → IsNext (first c) j
      go [] e =
          let left : s.rest c ≡ [] = no_cut k (s.rest c) (sym (r.rest c) ∙ no_places (t.rest c) (sym (reached.all c) ∙ ap waits_in e)) in
          elim (parts.none c) [
            | inl gone ↦ absurd (let same : j ∷ next.0 ≡ [] = sym next.1 ∙ parts.whole c ∙ ap (λ x. x ++ more c) e ∙ gone in cc same)
            | inr many ↦ absurd (let few = ap swap_count left in omega (arith, many, few))
          ]
      go (i ∷ js) e =
          let same : i ∷ (js ++ more c) ≡ j ∷ next.0 = sym (ap (λ x. x ++ more c) e) ∙ sym (parts.whole c) ∙ next.1 in
          let first_is : i ≡ j = cc same in
          (js, e ∙ ap (λ x. x ∷ js) first_is)

  stands : (k : ℕ) (s t : SyncState) (cursor : ℕ → ℕ) (jobs first more : ℕ → List Job) → IsCutAt syncs cut (suc k) s t → Reached cut t cursor first → Parts (suc k) s jobs first more
      → (c : ℕ) (o : Option WaitAt) → StandsAt (jobs c) o → StandsAt (first c) o
  stands k s t cursor jobs first more r reached parts c None e = (both_empty (first c) (more c) (sym (parts.whole c) ∙ e)).0
  stands k s t cursor jobs first more r reached parts c (Some w) next = some_job k s t cursor jobs first more r reached parts c (Wait w.place) next

  -- what has come to its end
  pub record IsEnded (js : List Entry) (log : List LogEntry) (t : SyncState) (first : ℕ → List Job) : Type 0 where
    pub replays : ReplaysFrom first (entries_from cut t js) log
    pub entries : entries_after (entries_from cut t js) log ≡ []
    pub clients : (c : ℕ) → StandsAt (jobs_after first (entries_from cut t js) log c) (head_wait ((end_of cut t js).rest c))

  over : (js : List Entry) (s t : SyncState) (cursor : ℕ → ℕ) (first : ℕ → List Job) → IsCutAt syncs cut 0 s t → Reached cut t cursor first
      → ((c : ℕ) → length_of cut c ≤ cursor c) → IsEnded (front_journal 0 js) [] t first
  over js s t cursor first r reached tight = by js
    where
      none : (c : ℕ) → None ≡ head_wait (t.rest c)
      none c = sym (ap head_wait (r.rest c ∙ front_none (s.rest c)))

      nothing : (c : ℕ) → StandsAt (first c) (head_wait (t.rest c))
      nothing c = subst (StandsAt (first c)) (none c) (nothing_rises (cursor c) (first c) (length_of cut c) (reached.rising c) (tight c))

      by : (js : List Entry) → IsEnded (front_journal 0 js) [] t first
      by [] = record { replays = tt; entries = refl; clients = nothing }
      by (e ∷ js) = record { replays = tt; entries = refl; clients = nothing }

  pub cut_log : (log : List LogEntry) (js : List Entry) (k : ℕ) (s t : SyncState) (cursor : ℕ → ℕ) (jobs first more : ℕ → List Job) → IsCutAt syncs cut k s t → AreOfClients syncs s
      → Reached cut t cursor first → Parts k s jobs first more → (k ≡ 0 → (c : ℕ) → length_of cut c ≤ cursor c) → IsLegalFrom syncs s js
      → ReplaysFrom jobs (entries_from syncs s js) log → entries_after (entries_from syncs s js) log ≡ []
      → ((c : ℕ) → StandsAt (jobs_after jobs (entries_from syncs s js) log c) (head_wait ((end_of syncs s js).rest c)))
      → IsEnded (front_journal k js) (front_log k js log) t first
  cut_log [] js zero s t cursor jobs first more r none reached parts tight legal replays done ends = over js s t cursor first r reached (tight refl)
  cut_log (Took d p ∷ log) js zero s t cursor jobs first more r none reached parts tight legal replays done ends = over js s t cursor first r reached (tight refl)
  cut_log (Performed ∷ log) js zero s t cursor jobs first more r none reached parts tight legal replays done ends = over js s t cursor first r reached (tight refl)
  cut_log [] [] (suc k) s t cursor jobs first more r none reached parts tight legal replays done ends = record {
    replays = tt;
    entries = refl;
    clients = λ c. subst (StandsAt (first c)) (sym (heads_alike n syncs cut h k s t r c)) (stands k s t cursor jobs first more r reached parts c (head_wait (s.rest c)) (ends c));
  }
  cut_log [] (e ∷ js) (suc k) s t cursor jobs first more r none reached parts tight legal replays done ends = absurd (cc done)
  cut_log (Took d p ∷ log) js (suc k) s t cursor jobs first more r none reached parts tight legal replays done ends =
      let next = some_job k s t cursor jobs first more r reached parts d (Work p) replays.0 in
      let reached' = (took_reaches cut t cursor first d p reached next).2 in
      let left = without (λ c. c == d) jobs in
      let left' = without (λ c. c == d) first in
      let parts' : Parts (suc k) s left left' more = record {
        whole = λ c. fewer (c == d) (Work p) (jobs c) (first c) (more c) (λ same. subst (λ x. IsNext (first x) (Work p)) (sym (eqb-true c d same)) next) (parts.whole c);
        none = parts.none;
      } in
      let later = cut_log log js (suc k) s t (moved cursor d (p + 1)) left left' more r none reached' parts' (λ z. absurd (omega (arith, z))) legal replays.1 done ends in
      record { replays = (next, later.replays); entries = later.entries; clients = later.clients }
  cut_log (Performed ∷ log) [] (suc k) s t cursor jobs first more r none reached parts tight legal replays done ends = absurd replays
  cut_log (Performed ∷ log) (e ∷ js) (suc k) s t cursor jobs first more r none reached parts tight legal replays done ends =
      let m = entry_at syncs s e in
      let m' = entry_at cut t e in
      let s' = after syncs s e in
      let t' = after cut t e in
      let p = legal.0 in
      let same = at_alike n syncs cut h k s t r e in
      let waits : (c place : ℕ) → m'.at c ≡ Some place → IsNext (first c) (Wait place) =
      λ c place is. some_job k s t cursor jobs first more r reached parts c (Wait place) (replays.0 c place (sym (same c) ∙ is)) in
      let reached' = performed_reaches cut t cursor first e reached (cut_lawful n syncs cut h k s t e r p) waits in
      let left = without (λ c. is_some (m.at c)) jobs in
      let left' = without (λ c. is_some (m'.at c)) first in
      let parts' : Parts (swaps_behind e k) s' left left' more = record {
        whole = λ c.
            ap (λ b. cond b (drop 1 (jobs c)) (jobs c)) (sym (ap is_some (same c)))
            ∙ fewer (is_some (m'.at c)) (waited (m'.at c)) (jobs c) (first c) (more c) (λ t. member_waits (m'.at c) t (first c) (waits c)) (parts.whole c);
        none = λ c. elim (parts.none c) [
          | inl gone ↦ inl gone
          | inr many ↦ inr (elim (cases_lt c (client_count syncs)) [
            | inl lt ↦ (let one = one_swap (is_swap_entry e) k in let count = count_step n syncs cut h s e p c lt in omega (arith, many, one, count))
            | inr ge ↦ absurd (let few = ap swap_count (none c ge) in omega (arith, many, few))
          ])
        ];
      } in
      let tight' : swaps_behind e k ≡ 0 → (c : ℕ) → length_of cut c ≤ passed_by cut t e cursor c = λ z c. elim (cases_lt c (client_count syncs)) [
        | inl lt ↦
            let stands_at = last_stop n syncs cut h k s t e r p z c lt in
            let member : is_member (client_count cut) e c ≡ true = subst (λ x. is_member x e c ≡ true) (sym h.clients) (last_member (client_count syncs) k e z c lt) in
            rw member (omega (arith, stands_at))
        | inr ge ↦ (let none_there = length_past cut c (subst (λ x. x ≤ c) (sym h.clients) ge) in omega (arith, none_there))
      ] in
      let later = cut_log log js (swaps_behind e k) s' t' (passed_by cut t e cursor) left left' more (cut_step n syncs cut h k s t e r none p) (past_after syncs s e none) reached' parts' tight'
      legal.1 replays.1 done ends in
      record { replays = (waits, later.replays); entries = later.entries; clients = later.clients }
    where
      waited : Option ℕ → Job
      waited None = Wait 0
      waited (Some place) = Wait place

      member_waits : (o : Option ℕ) → is_some o ≡ true → (js : List Job) → ((place : ℕ) → o ≡ Some place → IsNext js (Wait place)) → IsNext js (waited o)
      member_waits None t js f = absurd cc
      member_waits (Some place) t js f = f place refl

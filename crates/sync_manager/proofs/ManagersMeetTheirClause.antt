-- A manager's core meets its clause at first and after each step; and what follows where it has ended.
use Rattle.std.proofs.Common.{◌≡◌, ℕ, ◌<◌, ◌≤◌, ◌==◌, Bool, true, false, cond, List, [], ◌∷◌, ◌++◌, map, take, Ok, Some, None, inl, inr, refl, sym, ap, ◌∙◌, subst, arith, append-nil, true≢false, lt-ltb, ltb-true, eqb-true, Option}
use Rattle.std.proofs.Math.Seq.{take-length}
use Rattle.std.proofs.lemmas.Bool.{cases_Bool, cases_lt}
use Rattle.std.specs.Prelude.{nat_lt, not, option_to_list, MatchOption, slice_index_or}
use Rattle.rc_base.specs.Orders.Book.{IsBookOver}
use Rattle.rc_base.specs.Orders.Sync.{client_count}
use Rattle.rc_base.specs.declared.cluster.ManagerMoved.TheVariants as moved
use Rattle.rc_base.specs.declared.sync.Grant.{Grant}
use Rattle.rc_base.specs.declared.sync.Grant.TheVariants as grant_item
use Rattle.rc_base.specs.declared.sync.Request.{Request}
use Rattle.rc_base.specs.declared.sync.SyncLists.{SyncLists}
use Rattle.sync_manager.specs.Clauses.{first_lists, NewManagersMeetTheirClause, ManagerStepsKeepTheClause, ManagerStepsOverLanesKeepTheClause, EndedManagersAreDone}
use Rattle.sync_manager.specs.Progress.{ManagerProgress, new_progress, NoMoreComes, IsNextDeed, answer_of, taken_of, progress_after}
use Rattle.sync_manager.specs.Promises.{IsTakenRight, IsSentRight}
use Rattle.sync_manager.specs.declared.deed.ManagerDeed.{ManagerDeed}
use Rattle.sync_manager.specs.declared.deed.ManagerDeed.TheVariants.{Delivers, FindsFull, Grants, Receives, Loses, FindsNoRequest, Drops, FindsNoneLeft, Finishes}
use Rattle.sync_manager.proofs.FrontsArrive.{fronts_arrive}
use Rattle.sync_manager.proofs.RightManagers.{new_right, step_right}

module _ {A : Type 0} (n : ℕ) (lists : ℕ → List A) where
  pub within : (i : ℕ) → i < n → first_lists n lists i ≡ lists i
  within i lt = rw (lt-ltb i n lt) refl

  pub past : (i : ℕ) → n ≤ i → first_lists n lists i ≡ []
  past i ge = elim (cases_Bool (nat_lt i n)) [ inl t ↦ absurd (let lt = ltb-true i n t in omega (arith, lt, ge)) | inr f ↦ rw f refl ]

-- ---- at first

pub new_clause : NewManagersMeetTheirClause
new_clause syncs tiles core took sent count stands none unsent =
    let n = client_count syncs in
    let r = new_right syncs tiles in
    record {
      tiles_are = count;
      progress = new_progress;
      stands = stands;
      right = record {
        clients = λ c. subst (λ (xs : List Request). IsTakenRight syncs new_progress c xs)
            (sym (elim (cases_lt c n) [ inl lt ↦ within n took c lt ∙ none c lt | inr ge ↦ past n took c ge ])) (r.clients c);
        tiles_are = λ t lt. subst (λ (xs : List Grant). IsSentRight syncs new_progress t xs) (sym (unsent t lt)) (r.tiles_are t lt);
      };
      over = λ e. absurd (true≢false (sym e));
    }

-- ---- a step

beyond : (c client n : ℕ) → n ≤ c → client < n → (c == client) ≡ false
beyond c client n le lt = elim (cases_Bool (c == client)) [ inl t ↦ absurd (let e = eqb-true c client t in omega (arith, e, le, lt)) | inr f ↦ f ]

none_beyond : (syncs : SyncLists) (tiles : ℕ) (d : ManagerProgress) (deed : ManagerDeed) → IsNextDeed syncs tiles d deed → (c : ℕ) → client_count syncs ≤ c → taken_of deed c ≡ None
none_beyond syncs tiles d (Delivers tile g) next c le = refl
none_beyond syncs tiles d (FindsFull tile) next c le = refl
none_beyond syncs tiles d (Grants e) next c le = refl
none_beyond syncs tiles d (Receives client r) next c le = rw (beyond c client (client_count syncs) le next.1) refl
none_beyond syncs tiles d (Loses client place op) next c le = rw (beyond c client (client_count syncs) le next.1) refl
none_beyond syncs tiles d FindsNoRequest next c le = refl
none_beyond syncs tiles d (Drops client r) next c le = rw (beyond c client (client_count syncs) le next.1) refl
none_beyond syncs tiles d FindsNoneLeft next c le = refl
none_beyond syncs tiles d Finishes next c le = refl

-- only where nothing is left to do the step says so
finished : (deed : ManagerDeed) → answer_of deed ≡ Ok moved.Ended → deed ≡ Finishes
finished (Delivers tile g) e = absurd cc
finished (FindsFull tile) e = absurd cc
finished (Grants x) e = absurd cc
finished (Receives client r) e = absurd cc
finished (Loses client place op) e = absurd cc
finished FindsNoRequest e = absurd cc
finished (Drops client r) e = absurd cc
finished FindsNoneLeft e = absurd cc
finished Finishes e = refl

pub step_clause : ManagerStepsKeepTheClause
step_clause syncs tiles core deed later took took' sent sent' ended ended' h step taken appended said =
    let n = client_count syncs in
    let d = h.progress in
    let next : IsNextDeed syncs tiles d deed = subst (λ k. IsNextDeed syncs k d deed) h.tiles_are (step.first syncs d h.stands) in
    let r = step_right syncs tiles (first_lists n took) sent d deed h.right next in
    record {
      tiles_are = step.tiles ∙ h.tiles_are;
      progress = progress_after syncs d deed;
      stands = step.after syncs d h.stands;
      right = record {
        clients = λ c. subst (λ (xs : List Request). IsTakenRight syncs (progress_after syncs d deed) c xs)
            (elim (cases_lt c n) [
              | inl lt ↦ ap (λ (xs : List Request). xs ++ option_to_list (taken_of deed c)) (within n took c lt) ∙ sym (taken c lt) ∙ sym (within n took' c lt)
              | inr ge ↦
                  ap (λ (xs : List Request). xs ++ option_to_list (taken_of deed c)) (past n took c ge)
                  ∙ ap (λ o. [] ++ option_to_list o) (none_beyond syncs tiles d deed next c ge) ∙ sym (past n took' c ge)
            ])
            (r.clients c);
        tiles_are = λ t lt. subst (λ (xs : List Grant). IsSentRight syncs (progress_after syncs d deed) t xs) (sym (appended t lt)) (r.tiles_are t lt);
      };
      over = λ e. ends deed (finished deed (said e)) next;
    }
  where
    ends : (done : ManagerDeed) → done ≡ Finishes → IsNextDeed syncs tiles h.progress done → IsNextDeed syncs tiles (progress_after syncs h.progress done) Finishes
    ends done is next =
        subst (λ x. IsNextDeed syncs tiles (progress_after syncs h.progress x) Finishes) (sym is) (subst (λ x. IsNextDeed syncs tiles h.progress x) is next)

pub lanes_clause : {I O : Type 0} (gave : I → Request → I → Type 0) (same : I → I → Type 0) (sent : O → List Grant) → ManagerStepsOverLanesKeepTheClause gave same sent
lanes_clause {I} gave same sent taken follows syncs tiles d e deed before after h s =
    step_clause syncs tiles before.core deed after.core (λ client. taken (slice_index_or before.requests client d)) (λ client. taken (slice_index_or after.requests client d))
    (λ tile. sent (slice_index_or before.grants tile e)) (λ tile. sent (slice_index_or after.grants tile e)) before.ended after.ended h s.step
    (λ c lt. took_at (taken_of deed c) (slice_index_or before.requests c d) (slice_index_or after.requests c d)
    (s.took.at c d (let n = s.clients in omega (arith, n, lt, h.stands.book.clients))))
    (λ t lt. s.appended.at t e (let n = s.tiles in omega (arith, n, lt, h.tiles_are)))
    s.ends
  where
    took_at : (o : Option Request) (a b : I) → MatchOption o (same a b) (λ r. gave a r b) → taken b ≡ taken a ++ option_to_list o
    took_at None a b m = follows.stays a b m ∙ sym (append-nil (taken a))
    took_at (Some r) a b m = follows.grows a b r m

-- ---- the end

pub ended_done : EndedManagersAreDone
ended_done syncs tiles core took sent declared h ample fronts =
    let n = client_count syncs in
    let d = h.progress in
    let done = h.over refl in
    record {
      over = over done.0.no_more;
      arrived = fronts_arrive syncs tiles (first_lists n took) sent d declared h.right
          (λ c lt. let f = fronts c lt in (f.0, f.1 ∙ ap (λ (xs : List Request). xs ++ f.0) (sym (within n took c lt))))
          (λ c ge. past n took c ge);
      grants = λ t lt.
          let s = h.right.tiles_are t lt in
          let told : d.told t ≡ true = unlacked (d.told t) (done.0.told t lt) in
          s.grants ∙ ap (λ b. map (λ e. grant_item.Entry e) (take (d.delivered t) d.book.journal) ++ cond b (grant_item.NoMore ∷ []) []) told
          ∙ ap (λ k. map (λ e. grant_item.Entry e) (take k d.book.journal) ++ grant_item.NoMore ∷ []) (s.whole told)
          ∙ ap (λ js. map (λ e. grant_item.Entry e) js ++ grant_item.NoMore ∷ []) (take-length d.book.journal);
    }
  where
    over : NoMoreComes syncs h.progress → IsBookOver syncs h.progress.book
    over (inl short) = absurd (true≢false (sym short ∙ h.stands.short ∙ ample))
    over (inr is) = is

    unlacked : (b : Bool) → not b ≡ false → b ≡ true
    unlacked true e = refl
    unlacked false e = absurd (true≢false e)

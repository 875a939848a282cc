-- Lanes that a step found empty, by the lanes that were asked.
use Rattle.std.proofs.Common.{◌≡◌, ℕ, zero, suc, ◌<◌, Bool, true, false, not, List, [], ◌∷◌, length, ◌⊎◌, inl, inr, refl, sym, ◌∙◌, subst, true≢false, get_or, slice_index_or}
use Rattle.std.proofs.lemmas.Bool.{not-false}
use Rattle.rc_base.specs.Cluster.Lanes.{EachLane, IsAsked, IsEarlier}
use Rattle.rc_base.specs.declared.sync.Request.{Request}
use Rattle.rc_base.specs.declared.sync.SyncLists.{SyncLists}
use Rattle.sync_manager.specs.Books.{clients_in, is_wanted}
use Rattle.sync_manager.specs.Progress.{ManagerProgress, IsFoundEmpty, may_arrive}
use Rattle.sync_manager.specs.Cores.{IsProgressOf}
use Rattle.sync_manager.specs.Tasks.{IsTaking}
use Rattle.sync_manager.specs.declared.deed.ManagerDeed.{ManagerDeed}
use Rattle.sync_manager.specs.declared.deed.ManagerDeed.TheVariants.{FindsNoneLeft, Finishes}
use Rattle.sync_manager.specs.declared.manager.ManagerCore.{ManagerCore}
use Rattle.sync_manager.proofs.ManagerSteps.{wanted_is}

-- what stands in the list stands there under any default
pub there : (xs : List Bool) (k : ℕ) → get_or xs k false ≡ true → not (get_or xs k true) ≡ false
there [] k h = absurd (true≢false (sym h))
there (x ∷ xs) zero h = rw h refl
there (x ∷ xs) (suc k) h = there xs k h

module _ {I : Type 0} (R : I → I → Type 0) (before after : List I) (syncs : SyncLists) (core : ManagerCore) (d : ManagerProgress) (h : IsProgressOf syncs core d)
    (lanes : length before ≡ clients_in core.book) where
  -- requests are dropped, and none is left
  pub none_left : (deed : ManagerDeed) → (deed ≡ FindsNoneLeft) ⊎ (deed ≡ Finishes)
      → EachLane (λ i a b. IsAsked core.left i → R a b) before after → EachLane (λ i a b. IsFoundEmpty syncs d deed i → R a b) before after
  none_left deed (inl is) e = subst (λ x. EachLane (λ i a b. IsFoundEmpty syncs d x i → R a b) before after) (sym is) record {
    count = e.count;
    at = λ i x lt left. e.at i x lt (not-false (slice_index_or core.left i true) (sym (h.drained i (subst (λ n. i < n) lanes lt)) ∙ left));
  }
  none_left deed (inr is) e = subst (λ x. EachLane (λ i a b. IsFoundEmpty syncs d x i → R a b) before after) (sym is) record { count = e.count; at = λ i x lt left. absurd left }

  -- a request of a client was taken
  module _ (asks : List Bool) (wanted : (i : ℕ) → i < clients_in core.book → slice_index_or asks i true ≡ is_wanted core.book i) where
    asked : (i : ℕ) → i < length before → may_arrive syncs d.book i ≡ true → IsAsked asks i
    asked i lt may = let low = subst (λ n. i < n) lanes lt in wanted i low ∙ wanted_is syncs core d h i low ∙ may

    pub passed : (deed : ManagerDeed) (client : ℕ) (r : Request) → IsTaking deed client r
        → EachLane (λ i a b. IsEarlier core.start client i → IsAsked asks i → R a b) before after → EachLane (λ i a b. IsFoundEmpty syncs d deed i → R a b) before after
    passed deed client r (inl is) e = subst (λ x. EachLane (λ i a b. IsFoundEmpty syncs d x i → R a b) before after) (sym is) record {
      count = e.count;
      at = λ i x lt found. e.at i x lt (subst (λ n. IsEarlier n client i) h.next found.0) (asked i lt found.1);
    }
    passed deed client r (inr lost) e = subst (λ x. EachLane (λ i a b. IsFoundEmpty syncs d x i → R a b) before after) (sym lost.3) record {
      count = e.count;
      at = λ i x lt found. e.at i x lt (subst (λ n. IsEarlier n client i) h.next found.0) (asked i lt found.1);
    }

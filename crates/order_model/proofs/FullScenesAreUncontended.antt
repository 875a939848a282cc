-- Where nothing takes a unit and all clients meet at each barrier, nobody contends.
use Rattle.std.proofs.Common.{◌≡◌, ℕ, zero, suc, ◌+◌, ◌<◌, ◌≤◌, ◌==◌, Bool, true, false, cond, List, [], ◌∷◌, ◌⊎◌, Some, None, inl, inr, refl, sym, ap, ◌∙◌, subst, arith, true≢false, eqb-true}
use Rattle.std.specs.Prelude.{◌||◌}
use Rattle.std.specs.List.{AllByRecursion, list_any}
use Rattle.std.proofs.lemmas.Bool.{cases_Bool}
use Rattle.rc_base.specs.Lists.{IsIn}
use Rattle.rc_base.specs.Orders.Grant.{is_at_barrier}
use Rattle.rc_base.specs.Orders.Journal.{how_many}
use Rattle.rc_base.specs.Orders.Sync.{client_count, ops_of, count_of}
use Rattle.rc_base.specs.declared.sync.SyncLists.{SyncLists}
use Rattle.rc_base.specs.declared.sync.SyncOp.{SyncOp}
use Rattle.rc_base.specs.declared.sync.SyncOp.TheVariants.{Barrier, SemP, SemV, Swap}
use Rattle.rc_base.specs.declared.sync.WaitAt.{WaitAt}
use Rattle.scene_lemmas.proofs.Numbered.{how_many_at_most}
use Rattle.order_model.specs.Full.{IsFullOp, IsFull}
use Rattle.order_model.specs.Uncontended.{names_barrier, clients_naming, Takes, IsUncontended}
use Rattle.order_model.proofs.LawfulEntriesCommute.{search_below, operations}
use Rattle.order_model.proofs.MemberCounts.{one_count}

full_in : (syncs : SyncLists) (ws : List WaitAt) (op : SyncOp) → AllByRecursion (λ w. IsFullOp syncs w.op) ws → IsIn op (operations ws) → IsFullOp syncs op
full_in syncs [] op h i = absurd i
full_in syncs (w ∷ ws) op h i = elim i [ inl same ↦ subst (IsFullOp syncs) same h.0 | inr j ↦ full_in syncs ws op h.1 j ]

nobody_takes : (syncs : SyncLists) → IsFull syncs → (semaphore c : ℕ) → Takes syncs semaphore c → ⊥
nobody_takes syncs full semaphore c i = full_in syncs (ops_of syncs c) (SemP semaphore) (full c) i

full_at : (syncs : SyncLists) (b : ℕ) (op : SyncOp) → is_at_barrier b (Some op) ≡ true → IsFullOp syncs op → count_of syncs b ≡ Some (client_count syncs)
full_at syncs b (Barrier k) t h = subst (λ n. count_of syncs n ≡ Some (client_count syncs)) (eqb-true k b t) h
full_at syncs b (SemP k) t h = absurd h
full_at syncs b (SemV k) t h = absurd (true≢false (sym t))
full_at syncs b Swap t h = absurd (true≢false (sym t))

-- a barrier that is named counts all
named_counts_all : (syncs : SyncLists) (b : ℕ) (ws : List WaitAt) → AllByRecursion (λ w. IsFullOp syncs w.op) ws
    → list_any (λ (w : WaitAt). is_at_barrier b (Some w.op)) ws ≡ true → count_of syncs b ≡ Some (client_count syncs)
named_counts_all syncs b [] h t = absurd (true≢false (sym t))
named_counts_all syncs b (w ∷ ws) h t = elim (cases_Bool (is_at_barrier b (Some w.op))) [
  | inl t' ↦ full_at syncs b w.op t' h.0
  | inr f ↦ let t' : list_any (λ (w : WaitAt). is_at_barrier b (Some w.op)) ws ≡ true = rw f at t in named_counts_all syncs b ws h.1 t'
]

none_counted : (p : ℕ → Bool) (n : ℕ) → ((c : ℕ) → c < n → p c ≡ false) → how_many p n ≡ 0
none_counted p zero h = refl
none_counted p (suc n) h = rw (h n (omega arith)) (omega (arith, none_counted p n (λ c lt. h c (omega arith))))

few_name : (syncs : SyncLists) → IsFull syncs → (b count : ℕ) → count_of syncs b ≡ Some count → clients_naming syncs b ≤ count
few_name syncs full b count is = elim (search_below (names_barrier syncs b) (client_count syncs)) [
  | inl found ↦
      let all = one_count syncs b count (client_count syncs) is (named_counts_all syncs b (ops_of syncs found.0) (full found.0) found.1) in
      omega (arith, all, how_many_at_most (names_barrier syncs b) (client_count syncs))
  | inr none ↦ omega (arith, none_counted (names_barrier syncs b) (client_count syncs) none)
]

pub full_is_uncontended : (syncs : SyncLists) → IsFull syncs → IsUncontended syncs
full_is_uncontended syncs full = record {
  alone = record { takers = λ semaphore c d i j. absurd (nobody_takes syncs full semaphore c i); meets = few_name syncs full };
  givers = λ semaphore c d e taken i j. absurd (nobody_takes syncs full semaphore e taken);
}

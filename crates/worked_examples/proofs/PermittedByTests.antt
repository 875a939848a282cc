-- Two clients' order that is written out is permitted where tests say so.
use Rattle.std.proofs.Common.{◌≡◌, ℕ, zero, suc, ◌+◌, ◌<◌, ◌==◌, ◌&&◌, nat_lt, Bool, true, false, cond, List, [], ◌∷◌, length, drop, Option, Some, None, set, get_or, inl, inr, refl, sym, ap, ◌∙◌, subst, arith, eqb-true, ltb-true, lt-ltb, true≢false}
use Rattle.std.specs.Prelude.{slice_index, slice_set, bytes_eq}
use Rattle.std.proofs.lemmas.Bool.{and_parts, cases_Bool}
use Rattle.std.proofs.lemmas.Slice.Eq.{bytes_eq-Decides}
use Rattle.std.specs.List.{AllByRecursion}
use mathlib.Core.Path.{fun_ext}
use Rattle.rc_base.specs.Lists.{IsIn}
use Rattle.rc_base.specs.Orders.Journal.{SyncState, start, after, reach_of}
use Rattle.rc_base.specs.Orders.Order.{IsPermitted, entry_at, entries_from, entries_of, givers, takers}
use Rattle.rc_base.specs.Orders.Sync.{client_count, units_of}
use Rattle.rc_base.specs.declared.sync.Entry.{Entry}
use Rattle.rc_base.specs.declared.sync.Name.{Name}
use Rattle.rc_base.specs.declared.sync.SyncLists.{SyncLists}
use Rattle.order_model.proofs.ClientsBeyond.{reach_past}
use Rattle.order_model.proofs.PermittedAsRuns.{AreServed, Uncrossed, run_permitted}
use Rattle.order_model.proofs.RunsOfNames.{IsRun}
use Rattle.order_model.proofs.CheckedOrders.{bumped}

-- ---- each client's names, in their order

-- the same as IsRun over lists of ends and cursors, as a test
abbrev pub run_from : List ℕ → List ℕ → List Name → Bool
run_from ends next [] = bytes_eq next ends
run_from ends next (n ∷ ns) =
    nat_lt n.client (length next) && ((n.place == slice_index next n.client) && (nat_lt n.place (slice_index ends n.client)
    && run_from ends (slice_set next n.client (slice_index next n.client + 1)) ns))

run_by_test : (ends next : List ℕ) (o : List Name) → run_from ends next o ≡ true → IsRun (λ c. get_or ends c 0) (λ c. get_or next c 0) o
run_by_test ends next [] h = λ c. ap (λ xs. get_or xs c 0) ((bytes_eq-Decides next ends).0 h)
run_by_test ends next (n ∷ o) h =
    let a = and_parts _ _ h in
    let b = and_parts _ _ a.1 in
    let c = and_parts _ _ b.1 in
    let lt : n.client < length next = ltb-true n.client (length next) a.0 in (
      eqb-true n.place (get_or next n.client 0) b.0,
      ltb-true n.place (get_or ends n.client 0) c.0,
      subst (λ f. IsRun (λ c. get_or ends c 0) f o) (fun_ext (bumped next n.client lt)) (run_by_test ends (set next n.client (get_or next n.client 0 + 1)) o c.1),
    )

-- ---- what an entry parts

-- a place before a member's operation, and one behind it
abbrev pub is_before : Option ℕ → ℕ → Bool
is_before None place = false
is_before (Some op) place = nat_lt place op

abbrev pub is_behind : Option ℕ → ℕ → Bool
is_behind None place = false
is_behind (Some op) place = nat_lt op place

-- no name before an operation comes once a name behind one has come
abbrev pub apart_from : (ℕ → Option ℕ) → Bool → List Name → Bool
apart_from at passed [] = true
apart_from at passed (n ∷ ns) = cond passed (cond (is_before (at n.client) n.place) false (apart_from at true ns)) (apart_from at (is_behind (at n.client) n.place) ns)

-- all entries of a journal, from a state on
abbrev pub all_apart : SyncLists → SyncState → List Name → List Entry → Bool
all_apart syncs s order [] = true
all_apart syncs s order (e ∷ js) = apart_from (entry_at syncs s e).at false order && all_apart syncs (after syncs s e) order js

is_before_at : (o : Option ℕ) (p i : ℕ) → o ≡ Some i → p < i → is_before o p ≡ true
is_before_at o p i e lt = rw e (lt-ltb p i lt)

is_behind_at : (o : Option ℕ) (p i : ℕ) → o ≡ Some i → i < p → is_behind o p ≡ true
is_behind_at o p i e lt = rw e (lt-ltb i p lt)

-- no name stands before its client's operation
abbrev NoneBefore : (ℕ → Option ℕ) → List Name → Type 0
NoneBefore at o = (a : Name) (i : ℕ) → at a.client ≡ Some i → a.place < i → IsIn a o → ⊥

apart_by_test : (at : ℕ → Option ℕ) (passed : Bool) (o : List Name) → apart_from at passed o ≡ true → (passed ≡ true → NoneBefore at o) × Uncrossed o at
apart_by_test at passed [] h = (λ p a i e lt k. k, λ a b i j e f lt gt s. s)
apart_by_test at true (n ∷ o) h =
    elim (cases_Bool (is_before (at n.client) n.place)) [
      | inl t ↦ absurd (true≢false (sym h ∙ rw t refl))
      | inr none ↦
          let h' : apart_from at true o ≡ true = rw none at h in
          let r = apart_by_test at true o h' in (
            λ p a i e lt k. elim k [
              | inl same ↦ absurd (true≢false (sym (is_before_at (at a.client) a.place i e lt) ∙ sym (ap (λ (x : Name). is_before (at x.client) x.place) same) ∙ none))
              | inr l ↦ r.0 refl a i e lt l
            ],
            λ a b i j e f lt gt s. elim s [ inl k ↦ r.0 refl a i e lt k.1 | inr k ↦ r.1 a b i j e f lt gt k ],
          )
    ]
apart_by_test at false (n ∷ o) h =
    let r = apart_by_test at (is_behind (at n.client) n.place) o h in (
      λ p. absurd (true≢false (sym p)),
      λ a b i j e f lt gt s. elim s [
        | inl k ↦ r.0 (ap (λ (x : Name). is_behind (at x.client) x.place) k.0 ∙ is_behind_at (at b.client) b.place j f gt) a i e lt k.1
        | inr k ↦ r.1 a b i j e f lt gt k
      ],
    )

all_apart_by_test : (syncs : SyncLists) (s : SyncState) (o : List Name) (js : List Entry) → all_apart syncs s o js ≡ true
    → AllByRecursion (λ m. Uncrossed o m.at) (entries_from syncs s js)
all_apart_by_test syncs s o [] h = tt
all_apart_by_test syncs s o (e ∷ js) h =
    let k = and_parts (apart_from (entry_at syncs s e).at false o) (all_apart syncs (after syncs s e) o js) h in
    ((apart_by_test (entry_at syncs s e).at false o k.0).1, all_apart_by_test syncs (after syncs s e) o js k.1)

-- ---- both

pub two_permitted : (syncs : SyncLists) (js : List Entry) (o : List Name) (m n : ℕ) → client_count syncs ≡ 2 → reach_of syncs js 0 ≡ m → reach_of syncs js 1 ≡ n
    → run_from (m ∷ n ∷ []) (0 ∷ 0 ∷ []) o ≡ true → ((k : ℕ) → AreServed o (givers k (entries_of syncs js)) (drop (units_of syncs k) (takers k (entries_of syncs js))))
    → all_apart syncs (start syncs) o js ≡ true → IsPermitted syncs js o
two_permitted syncs js o m n two first second run served apart =
    run_permitted syncs js o
    (subst (λ f. IsRun f (λ c. 0) o) (sym (fun_ext ends)) (subst (λ f. IsRun (λ c. get_or (m ∷ n ∷ []) c 0) f o) (fun_ext zeros) (run_by_test (m ∷ n ∷ []) (0 ∷ 0 ∷ []) o run)))
    served (all_apart_by_test syncs (start syncs) o js apart)
  where
    ends : (c : ℕ) → reach_of syncs js c ≡ get_or (m ∷ n ∷ []) c 0
    ends zero = first
    ends (suc zero) = second
    ends (suc (suc c)) = reach_past syncs js (suc (suc c)) (omega (arith, two))

    zeros : (c : ℕ) → get_or {A = ℕ} (0 ∷ 0 ∷ []) c 0 ≡ 0
    zeros zero = refl
    zeros (suc zero) = refl
    zeros (suc (suc c)) = refl

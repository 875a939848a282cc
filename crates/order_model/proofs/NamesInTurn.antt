-- The name at an index of an order, and how many names of its client stand before it.
use Rattle.std.proofs.Common.{◌≡◌, ℕ, zero, suc, ◌+◌, ◌==◌, cond, List, [], ◌∷◌, ◌++◌, take, drop, Some, refl, sym, ap, subst, ◌∙◌, arith, inl, inr}
use Rattle.std.specs.Prelude.{slice_get}
use Rattle.std.proofs.lemmas.Bool.{cases_Bool}
use Rattle.rc_base.specs.Lists.{IsIn}
use Rattle.rc_base.specs.Orders.Order.{names_in}
use Rattle.rc_base.specs.declared.sync.Name.{Name}
use Rattle.order_model.proofs.RunsOfNames.{IsRun, bump}

pub order_at : (o : List Name) (i : ℕ) (n : Name) → slice_get o i ≡ Some n → (o ≡ take i o ++ n ∷ drop (i + 1) o) × (take (i + 1) o ≡ take i o ++ n ∷ [])
order_at [] i n e = absurd cc
order_at (m ∷ o) zero n e = let same : m ≡ n = cc in (ap (λ (k : Name). k ∷ o) same, ap (λ (k : Name). k ∷ []) same)
order_at (m ∷ o) (suc i) n e =
    let rest = order_at o i n e in
    let more : suc i + 1 ≡ suc (i + 1) = omega arith in (
      ap (λ (l : List Name). m ∷ l) rest.0 ∙ ap (λ (k : ℕ). m ∷ take i o ++ n ∷ drop k (m ∷ o)) (sym more),
      ap (λ (k : ℕ). take k (m ∷ o)) more ∙ ap (λ (l : List Name). m ∷ l) rest.1,
    )

pub names_push : (c : ℕ) (o : List Name) (n : Name) → names_in c (o ++ n ∷ []) ≡ names_in c o + cond (c == n.client) 1 0
names_push c [] n = omega arith
names_push c (m ∷ o) n = omega (arith, names_push c o n)

-- a run of each client's names has each in its place
pub run_next : (end cursor : ℕ → ℕ) (o : List Name) (i : ℕ) (n : Name) → IsRun end cursor o → slice_get o i ≡ Some n
    → n.place ≡ cursor n.client + names_in n.client (take i o)
run_next end cursor [] i n r e = absurd cc
run_next end cursor (m ∷ o) zero n r e =
    let same : m ≡ n = cc in
    let place : n.place ≡ cursor n.client = subst (λ (k : Name). k.place ≡ cursor k.client) same r.0 in
    omega (arith, place)
run_next end cursor (m ∷ o) (suc i) n r e =
    let rest = run_next end (bump cursor m.client) o i n r.2 e in
    elim (cases_Bool (n.client == m.client)) [
      | inl t ↦
          let rest' : n.place ≡ cursor n.client + 1 + names_in n.client (take i o) = rw t at rest in
          rw t (omega (arith, rest'))
      | inr f ↦
          let rest' : n.place ≡ cursor n.client + names_in n.client (take i o) = rw f at rest in
          rw f (omega (arith, rest'))
    ]

pub at_in : (o : List Name) (i : ℕ) (n : Name) → slice_get o i ≡ Some n → IsIn n o
at_in o i n e = subst (λ (l : List Name). IsIn n l) (sym (order_at o i n e).0) (middle (take i o) (drop (i + 1) o))
  where
    middle : (u v : List Name) → IsIn n (u ++ n ∷ v)
    middle [] v = inl refl
    middle (m ∷ u) v = inr (middle u v)

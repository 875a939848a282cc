-- Names that an order doesn't have yet, and cursors that stand for those it has.
use Rattle.std.proofs.Common.{◌≡◌, ℕ, zero, suc, ◌+◌, ◌-◌, ◌≤◌, ◌==◌, Bool, cond, List, [], ◌∷◌, ◌++◌, inl, inr, refl, sym, ap, ◌∙◌, subst, arith, eqb-true, append_assoc, append-nil, max}
use Rattle.std.proofs.lemmas.Bool.{cases_lt, cases_Bool}
use Rattle.rc_base.specs.Orders.Order.{names_from, names_in, added, all_added}
use Rattle.rc_base.specs.declared.sync.Name.{Name}
use Rattle.order_model.proofs.OrdersBySteps.{raised, passed, spread}
use Rattle.order_model.proofs.SpreadIsRun.{passed_not, until, until_below, until_past, until_next}

-- the order has each client's names below its cursor
abbrev pub Tracks : List Name → (ℕ → ℕ) → Type 0
Tracks order cursor = (c : ℕ) → names_in c order ≡ cursor c

pub names_append : (c : ℕ) (o o' : List Name) → names_in c (o ++ o') ≡ names_in c o + names_in c o'
names_append c [] o' = omega arith
names_append c (n ∷ o) o' = omega (arith, names_append c o o')

pub names_stretch : (d c p n : ℕ) → names_in d (names_from c p n) ≡ cond (d == c) n 0
names_stretch d c p zero = elim (cases_Bool (d == c)) [ inl t ↦ rw t refl | inr f ↦ rw f refl ]
names_stretch d c p (suc n) = elim (cases_Bool (d == c)) [
  | inl t ↦ let e = names_stretch d c (p + 1) n in let e' : names_in d (names_from c (p + 1) n) ≡ n = e ∙ ap (λ b. cond b n 0) t in rw t (omega arith)
  | inr f ↦ let e = names_stretch d c (p + 1) n in let e' : names_in d (names_from c (p + 1) n) ≡ 0 = e ∙ ap (λ b. cond b n 0) f in rw f (omega arith)
]

-- one client adds its names
pub added_is : (c p : ℕ) (o : List Name) (cursor : ℕ → ℕ) → Tracks o cursor → added c p o ≡ o ++ names_from c (cursor c) (p - cursor c)
added_is c p o cursor h = ap (λ k. o ++ names_from c k (p - k)) (h c)

pub stretch_tracks : (c p : ℕ) (o : List Name) (cursor : ℕ → ℕ) → Tracks o cursor → Tracks (o ++ names_from c (cursor c) (p - cursor c)) (raised cursor c p)
stretch_tracks c p o cursor h d =
    let e = names_append d o (names_from c (cursor c) (p - cursor c)) in
    let n = names_stretch d c (cursor c) (p - cursor c) in
    elim (cases_Bool (d == c)) [
      | inl t ↦
          let same : d ≡ c = eqb-true d c t in
          let n' : names_in d (names_from c (cursor c) (p - cursor c)) ≡ p - cursor c = n ∙ ap (λ b. cond b (p - cursor c) 0) t in
          rw t (omega (arith, e, n', h d, ap cursor same))
      | inr f ↦
          let n' : names_in d (names_from c (cursor c) (p - cursor c)) ≡ 0 = n ∙ ap (λ b. cond b (p - cursor c) 0) f in
          rw f (omega (arith, e, n', h d))
    ]

-- the first n clients in turn
until_added : (meant : ℕ → Bool) (places cursor : ℕ → ℕ) (n c : ℕ)
    → until meant places cursor (suc n) c ≡ cond (meant n) (raised (until meant places cursor n) n (places n) c) (until meant places cursor n c)
until_added meant places cursor n c =
    let now = until meant places cursor n in
    let own : now n ≡ cursor n = until_past meant places cursor n n (omega arith) in
    let either : Bool → ℕ = λ b. cond b (raised now n (places n) c) (now c) in
    until_next meant places cursor n c ∙ elim (cases_Bool (meant n)) [
      | inl m ↦
          let up : passed meant places cursor n ≡ max (now n) (places n) = ap (λ b. cond b (max (cursor n) (places n)) (cursor n)) m ∙ ap (λ k. max k (places n)) (sym own) in
          ap (λ k. cond (c == n) k (now c)) up ∙ ap either (sym m)
      | inr m ↦
          let still : cond (c == n) (cursor n) (now c) ≡ now c = elim (cases_Bool (c == n)) [
            | inl t ↦ ap (λ b. cond b (cursor n) (now c)) t ∙ sym own ∙ ap now (sym (eqb-true c n t))
            | inr f ↦ ap (λ b. cond b (cursor n) (now c)) f
          ] in
          ap (λ k. cond (c == n) k (now c)) (passed_not meant places cursor n m) ∙ still ∙ ap either (sym m)
    ]

all_is : (meant : ℕ → Bool) (places cursor : ℕ → ℕ) (n : ℕ) (o : List Name) → Tracks o cursor
    → (all_added meant places n o ≡ o ++ spread meant places cursor n) × Tracks (o ++ spread meant places cursor n) (until meant places cursor n)
all_is meant places cursor zero o h = (sym (append-nil o), λ c. ap (names_in c) (append-nil o) ∙ h c ∙ sym (until_past meant places cursor zero c (omega arith)))
all_is meant places cursor (suc n) o h =
    let r = all_is meant places cursor n o h in
    let front = o ++ spread meant places cursor n in
    let mid = until meant places cursor n in
    let own : mid n ≡ cursor n = until_past meant places cursor n n (omega arith) in
    let names = names_from n (cursor n) (places n - cursor n) in
    let names_same : names_from n (mid n) (places n - mid n) ≡ names = ap (λ k. names_from n k (places n - k)) own in
    elim (cases_Bool (meant n)) [
      | inl t ↦
          let step : added n (places n) front ≡ front ++ names = added_is n (places n) front mid r.1 ∙ ap (λ x. front ++ x) names_same in
          let whole : front ++ names ≡ o ++ (spread meant places cursor n ++ names) = append_assoc o (spread meant places cursor n) names in
          let tracks : Tracks (front ++ names) (raised mid n (places n)) = subst (λ x. Tracks (front ++ x) (raised mid n (places n))) names_same (stretch_tracks n (places n) front mid r.1) in (
            rw t (ap (added n (places n)) r.0 ∙ step ∙ whole),
            λ c. ap (λ b. names_in c (o ++ (spread meant places cursor n ++ cond b names []))) t ∙ ap (names_in c) (sym whole) ∙ tracks c ∙ sym (until_added meant places cursor n c ∙ ap (λ b. cond b (raised mid n (places n) c) (mid c)) t),
          )
      | inr f ↦ (
        rw f (r.0 ∙ ap (λ x. o ++ x) (sym (append-nil (spread meant places cursor n)))),
        λ c. ap (λ b. names_in c (o ++ (spread meant places cursor n ++ cond b names []))) f ∙ ap (λ x. names_in c (o ++ x)) (append-nil (spread meant places cursor n)) ∙ r.1 c ∙ sym (until_added meant places cursor n c ∙ ap (λ b. cond b (raised mid n (places n) c) (mid c)) f),
      )
    ]

pub spread_is : (meant : ℕ → Bool) (places cursor : ℕ → ℕ) (n : ℕ) (o : List Name) → Tracks o cursor → all_added meant places n o ≡ o ++ spread meant places cursor n
spread_is meant places cursor n o h = (all_is meant places cursor n o h).0

-- where no other client passes
pub spread_tracks : (meant : ℕ → Bool) (places cursor : ℕ → ℕ) (n : ℕ) (o : List Name) → Tracks o cursor → ((c : ℕ) → n ≤ c → passed meant places cursor c ≡ cursor c)
    → Tracks (o ++ spread meant places cursor n) (passed meant places cursor)
spread_tracks meant places cursor n o h others c = (all_is meant places cursor n o h).1 c ∙ elim (cases_lt c n) [
  | inl lt ↦ until_below meant places cursor n c lt
  | inr ge ↦ until_past meant places cursor n c ge ∙ sym (others c ge)
]

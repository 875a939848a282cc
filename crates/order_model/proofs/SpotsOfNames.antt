-- Where names stand in an order.
use Rattle.std.proofs.Common.{◌≡◌, ℕ, zero, suc, ◌+◌, ◌-◌, ◌<◌, ◌≤◌, ◌==◌, nat_lt, nat_le, true, false, cond, List, [], ◌∷◌, length, get_or, Option, Some, None, inl, inr, refl, sym, ap, ◌∙◌, subst, arith, eq-eqb, eqb-true, lt-ltb, ltb-true, le-leb, leb-true, true≢false}
use Rattle.std.proofs.lemmas.Bool.{cases_lt, cases_Bool, and_parts, and_from}
use Rattle.rc_base.specs.Lists.{IsIn, Stands}
use Rattle.rc_base.specs.declared.sync.Name.{Name}
use Rattle.order_model.specs.Checked.{is_from, first_at, spot_of, are_parted}
use Rattle.order_model.proofs.PermittedAsRuns.{Uncrossed}
use Rattle.order_model.proofs.RunsOfNames.{Rising}
use Rattle.order_model.proofs.StandsInLists.{second_in, either_first}

-- ---- the test

from_is : (c p : ℕ) (n : Name) → n.client ≡ c → p ≤ n.place → is_from c p n ≡ true
from_is c p n e le = and_from (n.client == c) (nat_le p n.place) (eq-eqb n.client c e) (le-leb p n.place le)

from_says : (c p : ℕ) (n : Name) → is_from c p n ≡ true → (n.client ≡ c) × (p ≤ n.place)
from_says c p n h = let k = and_parts (n.client == c) (nat_le p n.place) h in (eqb-true n.client c k.0, leb-true p n.place k.1)

from_not : (c p : ℕ) (n : Name) → ((n.client ≡ c) → (p ≤ n.place) → ⊥) → is_from c p n ≡ false
from_not c p n h = elim (cases_Bool (is_from c p n)) [ inl t ↦ let k = from_says c p n t in absurd (h k.0 k.1) | inr f ↦ f ]

-- ---- the first spot

first_here : (n : Name) (o : List Name) (c p : ℕ) → is_from c p n ≡ true → first_at (n ∷ o) c p ≡ 0
first_here n o c p t = ap (λ b. cond b 0 (suc (first_at o c p))) t

first_later : (n : Name) (o : List Name) (c p : ℕ) → is_from c p n ≡ false → first_at (n ∷ o) c p ≡ suc (first_at o c p)
first_later n o c p f = ap (λ b. cond b 0 (suc (first_at o c p))) f

pub first_within : (o : List Name) (c p : ℕ) → first_at o c p ≤ length o
first_within [] c p = omega arith
first_within (n ∷ o) c p = elim (cases_Bool (is_from c p n)) [
  | inl t ↦ omega (arith, first_here n o c p t)
  | inr f ↦ omega (arith, first_later n o c p f, first_within o c p)
]

-- a later place doesn't stand before an earlier one
pub first_rises : (o : List Name) (c p q : ℕ) → p ≤ q → first_at o c p ≤ first_at o c q
first_rises [] c p q le = omega arith
first_rises (n ∷ o) c p q le = elim (cases_Bool (is_from c p n)) [
  | inl t ↦ omega (arith, first_here n o c p t)
  | inr f ↦
      let g : is_from c q n ≡ false = from_not c q n (λ e k. true≢false (sym (from_is c p n e (omega arith)) ∙ f)) in
      omega (arith, first_later n o c p f, first_later n o c q g, first_rises o c p q le)
]

-- where the test holds
pub first_found : (o : List Name) (c p k : ℕ) (n : Name) → k < length o → n ≡ get_or o k n → is_from c p n ≡ true → first_at o c p ≤ k
first_found [] c p k n lt is t = absurd (omega arith)
first_found (m ∷ o) c p zero n lt is t = omega (arith, first_here m o c p (subst (λ x. is_from c p x ≡ true) is t))
first_found (m ∷ o) c p (suc k) n lt is t = elim (cases_Bool (is_from c p m)) [
  | inl u ↦ omega (arith, first_here m o c p u)
  | inr f ↦ omega (arith, first_later m o c p f, first_found o c p k n (omega arith) is t)
]

-- and where it doesn't
pub first_not_here : (o : List Name) (c p k : ℕ) (n : Name) → k < length o → n ≡ get_or o k n → is_from c p n ≡ false → k ≤ first_at o c p → k + 1 ≤ first_at o c p
first_not_here [] c p k n lt is f le = absurd (omega arith)
first_not_here (m ∷ o) c p zero n lt is f le = omega (arith, first_later m o c p (subst (λ x. is_from c p x ≡ false) is f))
first_not_here (m ∷ o) c p (suc k) n lt is f le = elim (cases_Bool (is_from c p m)) [
  | inl u ↦ absurd (omega (arith, first_here m o c p u))
  | inr g ↦
      let e = first_later m o c p g in
      omega (arith, e, first_not_here o c p k n (omega arith) is f (omega (arith, e)))
]

-- ---- one name before another

rising_not : (m : Name) (o : List Name) → Rising (m ∷ o) → (b : Name) → IsIn b o → is_from b.client b.place m ≡ false
rising_not m o r b i = from_not b.client b.place m (λ e le. let lt = r m b e (inl (refl, i)) in omega arith)

pub stands_less : (o : List Name) → Rising o → (a b : Name) → Stands a b o → spot_of o a < spot_of o b
stands_less [] r a b h = absurd h
stands_less (m ∷ o) r a b (inl h) =
    let here = first_here m o a.client a.place (from_is a.client a.place m (ap (λ (x : Name). x.client) h.0) (let e = ap (λ (x : Name). x.place) h.0 in omega (arith, e))) in
    omega (arith, here, first_later m o b.client b.place (rising_not m o r b h.1))
stands_less (m ∷ o) r a b (inr h) =
    let later = first_later m o b.client b.place (rising_not m o r b (second_in a b o h)) in
    elim (cases_Bool (is_from a.client a.place m)) [
      | inl t ↦ omega (arith, later, first_here m o a.client a.place t)
      | inr f ↦ omega (arith, later, first_later m o a.client a.place f, stands_less o (λ x y e s. r x y e (inr s)) a b h)
    ]

pub less_stands : (o : List Name) → Rising o → (a b : Name) → IsIn a o → IsIn b o → spot_of o a < spot_of o b → Stands a b o
less_stands o r a b i j lt = elim (either_first a b o i j) [
  | inl e ↦ absurd (omega (arith, ap (spot_of o) e, lt))
  | inr s ↦ elim s [ inl k ↦ k | inr k ↦ absurd (omega (arith, stands_less o r b a k, lt)) ]
]

not_same : (m a : Name) (o : List Name) → is_from a.client a.place m ≡ false → IsIn a (m ∷ o) → IsIn a o
not_same m a o f (inl e) = absurd (true≢false (sym (from_is a.client a.place m (ap (λ (x : Name). x.client) e) (let p = ap (λ (x : Name). x.place) e in omega (arith, p))) ∙ f))
not_same m a o f (inr i) = i

-- some name of a client from a place on stands before one whose spot is behind their first
less_some : (o : List Name) (a : Name) (c p : ℕ) → IsIn a o → first_at o c p < spot_of o a → (b : Name) × (b.client ≡ c) × (p ≤ b.place) × Stands b a o
less_some [] a c p i lt = absurd i
less_some (m ∷ o) a c p i lt =
    let away : is_from a.client a.place m ≡ false = elim (cases_Bool (is_from a.client a.place m)) [ inl t ↦ absurd (omega (arith, first_here m o a.client a.place t, lt)) | inr f ↦ f ] in
    let j : IsIn a o = not_same m a o away i in
    elim (cases_Bool (is_from c p m)) [
      | inl t ↦ let k = from_says c p m t in (m, k.0, k.1, inl (refl, j))
      | inr f ↦
          let r = less_some o a c p j (omega (arith, first_later m o a.client a.place away, first_later m o c p f, lt)) in
          (r.0, r.1, r.2, inr r.3)
    ]

-- ---- an entry that parts names

-- two members' names are parted by it
abbrev pub PartsAll : List Name → (ℕ → Option ℕ) → Type 0
PartsAll o at = (a b : ℕ) → are_parted o a (at a) b (at b) ≡ true

parted_true : (o : List Name) (a i b j : ℕ) → (0 < i → first_at o a (i - 1) ≤ first_at o b (j + 1)) → are_parted o a (Some i) b (Some j) ≡ true
parted_true o a i b j h = elim (cases_Bool (nat_lt 0 i)) [
  | inl t ↦ rw t (le-leb (first_at o a (i - 1)) (first_at o b (j + 1)) (h (ltb-true 0 i t)))
  | inr f ↦ rw f refl
]

parted_says : (o : List Name) (a i b j : ℕ) → are_parted o a (Some i) b (Some j) ≡ true → 0 < i → first_at o a (i - 1) ≤ first_at o b (j + 1)
parted_says o a i b j h lt = leb-true (first_at o a (i - 1)) (first_at o b (j + 1)) (sym (ap (λ t. cond t (nat_le (first_at o a (i - 1)) (first_at o b (j + 1))) true) (lt-ltb 0 i lt)) ∙ h)

pub parts_uncrossed : (o : List Name) (at : ℕ → Option ℕ) → Rising o → PartsAll o at → Uncrossed o at
parts_uncrossed o at r h a b i j is is' before behind st =
    let p : are_parted o a.client (Some i) b.client (Some j) ≡ true = subst (λ x. are_parted o a.client x b.client (Some j) ≡ true) is (subst (λ y. are_parted o a.client (at a.client) b.client y ≡ true) is' (h a.client b.client)) in
    omega (
      arith,
      stands_less o r b a st,
      first_rises o a.client a.place (i - 1) (omega arith),
      parted_says o a.client i b.client j p (omega arith),
      first_rises o b.client (j + 1) b.place (omega arith),
    )

pub uncrossed_parts : (o : List Name) (at : ℕ → Option ℕ) → ((c i : ℕ) → at c ≡ Some i → 0 < i → IsIn record { client = c; place = i - 1 } o) → Uncrossed o at → PartsAll o at
uncrossed_parts o at in_order h a b = go (at a) (at b) refl refl
  where
    go : (x y : Option ℕ) → at a ≡ x → at b ≡ y → are_parted o a x b y ≡ true
    go None y e e' = refl
    go (Some i) None e e' = refl
    go (Some i) (Some j) e e' = parted_true o a i b j (λ some. elim (cases_lt (first_at o b (j + 1)) (first_at o a (i - 1))) [
      | inl lt ↦
          let n : Name = record { client = a; place = i - 1 } in
          let k = less_some o n b (j + 1) (in_order a i e some) lt in
          absurd (h n k.0 i j e (ap at k.1 ∙ e') (omega arith) (omega (arith, k.2)) k.3)
      | inr ge ↦ ge
    ])

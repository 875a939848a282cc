-- Names that several clients add, each up to its place.
use Rattle.std.proofs.Common.{max, ◌≡◌, ℕ, zero, suc, ◌+◌, ◌-◌, ◌<◌, ◌≤◌, ◌==◌, nat_lt, Bool, true, false, cond, List, [], ◌∷◌, ◌++◌, inl, inr, refl, sym, ap, ◌∙◌, subst, arith, lt-ltb, eq-eqb, eqb-true}
use Rattle.std.proofs.lemmas.Bool.{cases_lt, eqb-false, cases_Bool, le-ltb}
use mathlib.Core.Path.{fun_ext}
use Rattle.rc_base.specs.Orders.Order.{names_from}
use Rattle.rc_base.specs.declared.sync.Name.{Name}
use Rattle.order_model.proofs.OrdersBySteps.{moved, raised, passed, spread}
use Rattle.order_model.proofs.RunsOfNames.{bump, IsRun}

-- ---- one run after another
pub run_on : (last mid first : ℕ → ℕ) (o o' : List Name) → ((c : ℕ) → mid c ≤ last c) → IsRun mid first o → IsRun last mid o' → IsRun last first (o ++ o')
run_on last mid first [] o' le r r' = subst (λ f. IsRun last f o') (sym (fun_ext r)) r'
run_on last mid first (n ∷ o) o' le r r' = (r.0, omega (arith, r.1, le n.client), run_on last mid (bump first n.client) o o' le r.2 r')

run_same_end : (last last' first : ℕ → ℕ) (o : List Name) → ((c : ℕ) → last c ≡ last' c) → IsRun last first o → IsRun last' first o
run_same_end last last' first o e r = subst (λ f. IsRun f first o) (fun_ext e) r

-- a stretch of one client
raise_bump : (cursor : ℕ → ℕ) (c p d : ℕ) → moved (bump cursor c) c p d ≡ moved cursor c p d
raise_bump cursor c p d = elim (cases_Bool (d == c)) [ inl t ↦ rw t refl | inr f ↦ rw f refl ]

stretch : (cursor : ℕ → ℕ) (c n p : ℕ) → p ≡ cursor c → IsRun (moved cursor c (p + n)) cursor (names_from c p n)
stretch cursor c zero p e = λ d. elim (cases_Bool (d == c)) [ inl t ↦ rw t (ap cursor (eqb-true d c t) ∙ sym e ∙ omega arith) | inr f ↦ rw f refl ]
stretch cursor c (suc n) p e =
    let mine : moved cursor c (p + suc n) c ≡ p + suc n = rw (eq-eqb c c refl) refl in
    let bumped : bump cursor c c ≡ cursor c + 1 = rw (eq-eqb c c refl) refl in (
      e,
      omega (arith, mine),
      run_same_end _ _ (bump cursor c) (names_from c (p + 1) n)
          (λ d. raise_bump cursor c (p + 1 + n) d ∙ ap (λ k. moved cursor c k d) (let h : p + 1 + n ≡ p + suc n = omega arith in h))
          (stretch (bump cursor c) c n (p + 1) (omega (arith, bumped))),
    )

pub stretch_to : (cursor : ℕ → ℕ) (c p : ℕ) → cursor c ≤ p → IsRun (moved cursor c p) cursor (names_from c (cursor c) (p - cursor c))
stretch_to cursor c p le = subst (λ k. IsRun (moved cursor c k) cursor (names_from c (cursor c) (p - cursor c))) (omega arith) (stretch cursor c (p - cursor c) (cursor c) refl)

pub raised_is : (cursor : ℕ → ℕ) (c p : ℕ) → cursor c ≤ p → moved cursor c p ≡ raised cursor c p
raised_is cursor c p le = let e : p ≡ max (cursor c) p = omega arith in ap (moved cursor c) e

-- ---- each client in turn

-- the first n clients have passed
abbrev pub until : (ℕ → Bool) → (ℕ → ℕ) → (ℕ → ℕ) → ℕ → ℕ → ℕ
until meant places cursor n c = cond (nat_lt c n) (passed meant places cursor c) (cursor c)

pub until_below : (meant : ℕ → Bool) (places cursor : ℕ → ℕ) (n c : ℕ) → c < n → until meant places cursor n c ≡ passed meant places cursor c
until_below meant places cursor n c lt = rw (lt-ltb c n lt) refl

pub until_past : (meant : ℕ → Bool) (places cursor : ℕ → ℕ) (n c : ℕ) → n ≤ c → until meant places cursor n c ≡ cursor c
until_past meant places cursor n c le = rw (le-ltb c n le) refl

pub passed_is : (meant : ℕ → Bool) (places cursor : ℕ → ℕ) (c : ℕ) → cursor c ≤ places c → meant c ≡ true → passed meant places cursor c ≡ places c
passed_is meant places cursor c le t = ap (λ b. cond b (max (cursor c) (places c)) (cursor c)) t ∙ omega arith

pub passed_not : (meant : ℕ → Bool) (places cursor : ℕ → ℕ) (c : ℕ) → meant c ≡ false → passed meant places cursor c ≡ cursor c
passed_not meant places cursor c f = ap (λ b. cond b (max (cursor c) (places c)) (cursor c)) f

passes_more : (meant : ℕ → Bool) (places cursor : ℕ → ℕ) (c : ℕ) → cursor c ≤ passed meant places cursor c
passes_more meant places cursor c = elim (cases_Bool (meant c)) [ inl t ↦ rw t (omega arith) | inr f ↦ rw f (omega arith) ]

until_more : (meant : ℕ → Bool) (places cursor : ℕ → ℕ) (n c : ℕ) → until meant places cursor n c ≤ until meant places cursor (suc n) c
until_more meant places cursor n c = elim (cases_lt c n) [
  | inl lt ↦ rw (until_below meant places cursor n c lt, until_below meant places cursor (suc n) c (omega arith)) (omega arith)
  | inr ge ↦ elim (cases_lt c (suc n)) [
    | inl lt ↦ rw (until_past meant places cursor n c ge, until_below meant places cursor (suc n) c lt) (passes_more meant places cursor c)
    | inr ge' ↦ rw (until_past meant places cursor n c ge, until_past meant places cursor (suc n) c ge') (omega arith)
  ]
]

pub until_next : (meant : ℕ → Bool) (places cursor : ℕ → ℕ) (n c : ℕ)
    → until meant places cursor (suc n) c ≡ cond (c == n) (passed meant places cursor n) (until meant places cursor n c)
until_next meant places cursor n c = elim (cases_Bool (c == n)) [
  | inl t ↦ let h : c ≡ n = eqb-true c n t in rw t (until_below meant places cursor (suc n) c (omega arith) ∙ ap (passed meant places cursor) h)
  | inr f ↦ let ne = eqb-false c n f in elim (cases_lt c n) [
    | inl lt ↦ rw f (until_below meant places cursor (suc n) c (omega arith) ∙ sym (until_below meant places cursor n c lt))
    | inr ge ↦ rw f (until_past meant places cursor (suc n) c (elim (cases_lt n c) [ inl lt ↦ omega arith | inr le ↦ absurd (ne (omega arith)) ]) ∙ sym (until_past meant places cursor n c ge))
  ]
]

one_spread : (meant : ℕ → Bool) (places cursor : ℕ → ℕ) → ((c : ℕ) → cursor c ≤ places c) → (n : ℕ)
    → IsRun (until meant places cursor (suc n)) (until meant places cursor n) (cond (meant n) (names_from n (cursor n) (places n - cursor n)) [])
one_spread meant places cursor le n =
    let mid = until meant places cursor n in
    let at : mid n ≡ cursor n = until_past meant places cursor n n (omega arith) in
    elim (cases_Bool (meant n)) [
      | inl t ↦
          let all : passed meant places cursor n ≡ places n = passed_is meant places cursor n (le n) t in
          rw t (run_same_end (moved mid n (places n)) (until meant places cursor (suc n)) mid (names_from n (cursor n) (places n - cursor n))
          (λ c. ap (λ k. cond (c == n) k (mid c)) (sym all) ∙ sym (until_next meant places cursor n c))
          (subst (λ k. IsRun (moved mid n (places n)) mid (names_from n k (places n - k))) at (stretch_to mid n (places n) (omega (arith, le n, at)))))
      | inr f ↦
          let all : passed meant places cursor n ≡ cursor n = passed_not meant places cursor n f in
          rw f (λ c. elim (cases_Bool (c == n)) [
            | inl t ↦ sym (until_next meant places cursor n c ∙ (rw t (all ∙ sym at ∙ ap mid (sym (eqb-true c n t)))))
            | inr g ↦ sym (until_next meant places cursor n c ∙ (rw g refl))
          ])
    ]

first_spread : (meant : ℕ → Bool) (places cursor : ℕ → ℕ) → ((c : ℕ) → cursor c ≤ places c) → (n : ℕ)
    → IsRun (until meant places cursor n) cursor (spread meant places cursor n)
first_spread meant places cursor le zero = λ c. sym (until_past meant places cursor zero c (omega arith))
first_spread meant places cursor le (suc n) =
    run_on (until meant places cursor (suc n)) (until meant places cursor n) cursor (spread meant places cursor n) _ (until_more meant places cursor n)
    (first_spread meant places cursor le n) (one_spread meant places cursor le n)

-- all of them, where no other client passes
pub spread_run : (meant : ℕ → Bool) (places cursor : ℕ → ℕ) → ((c : ℕ) → cursor c ≤ places c) → (n : ℕ) → ((c : ℕ) → n ≤ c → passed meant places cursor c ≡ cursor c)
    → IsRun (passed meant places cursor) cursor (spread meant places cursor n)
spread_run meant places cursor le n others =
    run_same_end (until meant places cursor n) (passed meant places cursor) cursor (spread meant places cursor n)
    (λ c. elim (cases_lt c n) [
      | inl lt ↦ until_below meant places cursor n c lt
      | inr ge ↦ until_past meant places cursor n c ge ∙ sym (others c ge)
    ])
    (first_spread meant places cursor le n)

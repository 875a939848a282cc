-- The cells tell the last uses by the names that are passed.
use Rattle.std.proofs.Common.{◌≡◌, ◌≢◌, ℕ, zero, suc, ◌+◌, ◌-◌, ◌*◌, ◌<◌, ◌≤◌, ◌==◌, Bool, true, false, cond, List, [], ◌∷◌, ◌++◌, ◌⊎◌, length, replicate, inl, inr, refl, sym, ap, ◌∙◌, subst, arith, eqb-true, true≢false}
use Rattle.std.specs.Prelude.{slice_index, slice_index_or}
use Rattle.std.proofs.lemmas.Bool.{cases_Bool, cases_lt, eqb-false}
use Rattle.std.proofs.lemmas.List.{get_or-set_same, get_or-set_other, length-replicate}
use Rattle.std.proofs.Math.ListN.{length-set}
use Rattle.rc_base.specs.Lists.{IsIn}
use Rattle.rc_base.specs.declared.sync.Name.{Name}
use Rattle.order_model.proofs.RecordedByCounts.{zeros}
use Rattle.order_model.proofs.StandsInLists.{in_append, in_left}
use Rattle.plain_lemmas.proofs.Places.{next_row}
use Rattle.race_check.specs.Uses.{IsBehind, IsLast, AreLast, named}
use Rattle.race_check.specs.Finds.{IsFoundIn, cell_at, leads, marked}
use Rattle.race_check.specs.declared.found.Found.{Found}
use Rattle.race_check.specs.declared.verdict.Spot.{Spot}
use Rattle.race_check.proofs.FoundFirst.{later_leads}

-- ---- one name more

pub in_more : (a n : Name) (passed : List Name) → IsIn a (passed ++ n ∷ []) → IsIn a passed ⊎ (n ≡ a)
in_more a n passed i = elim (in_append a passed (n ∷ []) i) [ inl h ↦ inl h | inr (inl e) ↦ inr e | inr (inr k) ↦ absurd k ]

pub in_end : (n : Name) (passed : List Name) → IsIn n (passed ++ n ∷ [])
in_end n [] = inl refl
in_end n (x ∷ passed) = inr (in_end n passed)

pub last_more : {I : Type 0} (uses : Name → I → Bool) (index : I → ℕ) (IsThere : I → Type 0) (passed : List Name) (old new : List (List ℕ)) (n : Name) → AreLast uses index IsThere passed old
    → n.client < 8 → IsBehind passed n → length new ≡ length old
    → ((i : I) → IsThere i → cell_at new (index i) ≡ cond (uses n i) (marked n (cell_at old (index i))) (cell_at old (index i))) → AreLast uses index IsThere (passed ++ n ∷ []) new
last_more {I = I} uses index IsThere passed old new n h client rising same cell = record { within = λ i ok. omega (arith, same, h.within i ok); slots = slots; last = last }
  where
    slots : (i : I) → IsThere i → length (cell_at new (index i)) ≡ 8
    slots i ok = elim (cases_Bool (uses n i)) [
      | inl t ↦ ap length (cell i ok ∙ rw t refl) ∙ length-set (cell_at old (index i)) n.client (n.place + 1) ∙ h.slots i ok
      | inr f ↦ ap length (cell i ok ∙ rw f refl) ∙ h.slots i ok
    ]

    Passes : I → ℕ → List Name → ℕ → Type 0
    Passes i d names p = IsIn (named d p) names × (uses (named d p) i ≡ true)

    -- where the cell has what it had
    kept : (i : I) → IsThere i → (d : ℕ) → (d ≡ n.client → uses n i ≡ false) → IsLast (Passes i d (passed ++ n ∷ [])) (slice_index (cell_at old (index i)) d)
    kept i ok d quiet =
        let was = h.last i ok d in
        record {
          most = λ p k. elim (in_more (named d p) n passed k.0) [
            | inl old ↦ was.most p (old, k.1)
            | inr e ↦ absurd (let c : n.client ≡ d = ap (λ (x : Name). x.client) e in true≢false (sym k.1 ∙ sym (ap (λ x. uses x i) e) ∙ quiet (sym c)))
          ];
          there = λ p e. let k = was.there p e in (in_left (named d p) passed (n ∷ []) k.0, k.1);
        }

    last : (i : I) → IsThere i → (d : ℕ) → IsLast (Passes i d (passed ++ n ∷ [])) (slice_index (cell_at new (index i)) d)
    last i ok d = elim (cases_Bool (uses n i)) [
      | inl t ↦
          let now : cell_at new (index i) ≡ marked n (cell_at old (index i)) = cell i ok ∙ rw t refl in
          elim (cases_Bool (d == n.client)) [
            | inl s ↦
                let e = eqb-true d n.client s in
                let v : slice_index (cell_at new (index i)) d ≡ n.place + 1 =
                ap (λ c. slice_index c d) now ∙ ap (slice_index (marked n (cell_at old (index i)))) e ∙ get_or-set_same (cell_at old (index i)) n.client (n.place + 1) 0 (omega (arith, h.slots i ok)) in
                subst (IsLast (Passes i d (passed ++ n ∷ []))) (sym v) (record {
                  most = λ p k. elim (in_more (named d p) n passed k.0) [
                    | inl old ↦ omega (arith, rising p (subst (λ c. IsIn (named c p) passed) e old))
                    | inr same ↦ let q : n.place ≡ p = ap (λ (x : Name). x.place) same in omega arith
                  ];
                  there = λ p f.
                      let q : n.place ≡ p = omega arith in
                      let same : n ≡ named d p = λ j. record { client = sym e j; place = q j } in
                      (subst (λ x. IsIn x (passed ++ n ∷ [])) same (in_end n passed), ap (λ x. uses x i) (sym same) ∙ t);
                })
            | inr f ↦
                let ne = eqb-false d n.client f in
                let v : slice_index (cell_at new (index i)) d ≡ slice_index (cell_at old (index i)) d = ap (λ c. slice_index c d) now ∙ get_or-set_other (cell_at old (index i)) n.client d (n.place + 1) 0 ne in
                subst (IsLast (Passes i d (passed ++ n ∷ []))) (sym v) (kept i ok d (λ e. absurd (ne e)))
          ]
      | inr f ↦
          let now : cell_at new (index i) ≡ cell_at old (index i) = cell i ok ∙ rw f refl in
          subst (λ c. IsLast (Passes i d (passed ++ n ∷ [])) (slice_index c d)) (sym now) (kept i ok d (λ e. f))
    ]

pub cell_unused : (n q : ℕ) → q < n → slice_index_or (replicate n (replicate {A = ℕ} 8 0)) q [] ≡ replicate 8 0
cell_unused zero q l = absurd (omega arith)
cell_unused (suc n) zero l = refl
cell_unused (suc n) (suc q) l = cell_unused n q (omega arith)

-- no name is passed
pub last_none : {I : Type 0} (uses : Name → I → Bool) (index : I → ℕ) (IsThere : I → Type 0) (cells : List (List ℕ)) (count : ℕ) → cells ≡ replicate count (replicate {A = ℕ} 8 0)
    → ((i : I) → IsThere i → index i < count) → AreLast uses index IsThere [] cells
last_none {I = I} uses index IsThere cells count e lt = subst (AreLast uses index IsThere []) (sym e) (record {
  within = λ i ok. omega (arith, lt i ok, length-replicate count (replicate {A = ℕ} 8 0));
  slots = λ i ok. ap length (cell_unused count (index i) (lt i ok));
  last = λ i ok d. record {
    most = λ p k. absurd k.0;
    there = λ p f. let z = ap (λ c. slice_index c d) (cell_unused count (index i) (lt i ok)) in absurd (omega (arith, z, f, zeros 8 d));
  };
})

-- ---- what a cell tells

-- a name that it tells of used the thing
pub found_used : {I : Type 0} (uses : Name → I → Bool) (index : I → ℕ) (IsThere : I → Type 0) (passed : List Name) (cells : List (List ℕ)) → AreLast uses index IsThere passed cells → (i : I)
    → IsThere i → (own : ℕ) (clock : List ℕ) (spot : Spot) (x : Found) → IsFoundIn own clock (cell_at cells (index i)) spot x
    → IsIn (named x.client x.place) passed × (uses (named x.client x.place) i ≡ true)
found_used uses index IsThere passed cells h i ok own clock spot x k = (h.last i ok x.client).there x.place (omega (arith, k.last))

-- of one that used the thing it tells, or of a later one of its client
pub used_found : {I : Type 0} (uses : Name → I → Bool) (index : I → ℕ) (IsThere : I → Type 0) (passed : List Name) (cells : List (List ℕ)) → AreLast uses index IsThere passed cells → (i : I)
    → IsThere i → (own : ℕ) (clock : List ℕ) (x : Found) → IsIn (named x.client x.place) passed → uses (named x.client x.place) i ≡ true → x.client ≢ own → slice_index clock x.client ≤ x.place
    → (y : Found) × IsFoundIn own clock (cell_at cells (index i)) x.spot y × (leads y x ≡ true)
used_found uses index IsThere passed cells h i ok own clock x earlier used other le =
    let cell = cell_at cells (index i) in
    let below = (h.last i ok x.client).most x.place (earlier, used) in
    let y : Found = record { client = x.client; place = slice_index cell x.client - 1; spot = x.spot } in
    (y, record { other = other; last = omega arith; uncounted = omega arith; at = refl }, later_leads y x refl (omega arith) refl)

-- ---- pixels

-- rows of a window don't meet
pub same_pixel : (w x y u v : ℕ) → x < w → u < w → y * w + x ≡ v * w + u → (y ≡ v) × (x ≡ u)
same_pixel w x y u v lx lu e = elim (cases_lt y v) [
  | inl lt ↦ absurd (omega (arith, next_row w y v lt, e))
  | inr ge ↦ elim (cases_lt v y) [
    | inl lt ↦ absurd (omega (arith, next_row w v y lt, e))
    | inr le ↦ let s : y ≡ v = omega arith in (s, omega (arith, e, ap (λ k. k * w) s))
  ]
]

-- Orders to which names are added one by one, with the counts of each client's names.
use Rattle.std.proofs.Common.{◌≡◌, ℕ, zero, suc, ◌+◌, ◌-◌, ◌<◌, ◌≤◌, ◌==◌, Bool, cond, max, List, [], ◌∷◌, ◌++◌, length, get_or, set, inl, inr, refl, sym, ap, ◌∙◌, subst, arith, append_assoc, eqb-true}
use Rattle.std.proofs.lemmas.Bool.{cases_Bool, eqb-false}
use Rattle.std.proofs.lemmas.List.{get_or-set_same, get_or-set_other}
use Rattle.rc_base.specs.Orders.Order.{names_from, added, all_added, names_in}
use Rattle.rc_base.specs.declared.sync.Name.{Name}
use Rattle.order_model.specs.Counted.{AreCounts}
use Rattle.order_model.proofs.AddedNames.{added_is, stretch_tracks}
use Rattle.order_model.proofs.OrdersBySteps.{raised}

pub add_step : (xs : List Name) (c p q : ℕ) → p < q → (xs ++ record { client = c; place = p } ∷ []) ++ names_from c (p + 1) (q - (p + 1)) ≡ xs ++ names_from c p (q - p)
add_step xs c p q lt =
    let e : q - p ≡ suc (q - (p + 1)) = omega arith in
    append_assoc xs (record { client = c; place = p } ∷ []) (names_from c (p + 1) (q - (p + 1))) ∙ ap (λ ys. xs ++ ys) (sym (ap (names_from c p) e))

-- the counts after a client's names are added
pub counts_raised : (o : List Name) (counts counts' : List ℕ) (c p : ℕ) → AreCounts o counts → ((d : ℕ) → get_or counts' d 0 ≡ raised (λ k. get_or counts k 0) c p d)
    → AreCounts (added c p o) counts'
counts_raised o counts counts' c p h e d =
    ap (names_in d) (added_is c p o (λ k. get_or counts k 0) h) ∙ stretch_tracks c p o (λ k. get_or counts k 0) h d ∙ sym (e d)

pub set_raised : (counts : List ℕ) (c p : ℕ) → c < length counts → get_or counts c 0 < p → (d : ℕ) → get_or (set counts c p) d 0 ≡ raised (λ k. get_or counts k 0) c p d
set_raised counts c p lt below d = elim (cases_Bool (d == c)) [
  | inl t ↦
      let e : d ≡ c = eqb-true d c t in
      let top : p ≡ max (get_or counts c 0) p = omega arith in
      rw t (subst (λ k. get_or (set counts c p) k 0 ≡ max (get_or counts c 0) p) (sym e) (get_or-set_same counts c p 0 lt ∙ top))
  | inr f ↦ rw f (get_or-set_other counts c d p 0 (eqb-false d c f))
]

pub same_raised : (counts : List ℕ) (c p : ℕ) → p ≤ get_or counts c 0 → (d : ℕ) → get_or counts d 0 ≡ raised (λ k. get_or counts k 0) c p d
same_raised counts c p le d = elim (cases_Bool (d == c)) [
  | inl t ↦
      let e : d ≡ c = eqb-true d c t in
      let top : get_or counts c 0 ≡ max (get_or counts c 0) p = omega arith in
      rw t (subst (λ k. get_or counts k 0 ≡ max (get_or counts c 0) p) (sym e) top)
  | inr f ↦ rw f refl
]

-- of the first n clients it matters alone where these stop
pub all_added_alike : (meant : ℕ → Bool) (places places' : ℕ → ℕ) (n : ℕ) (o : List Name) → ((c : ℕ) → c < n → places c ≡ places' c)
    → all_added meant places n o ≡ all_added meant places' n o
all_added_alike meant places places' zero o h = refl
all_added_alike meant places places' (suc n) o h =
    let before : all_added meant places n o ≡ all_added meant places' n o = all_added_alike meant places places' n o (λ c lt. h c (omega arith)) in
    let here : places n ≡ places' n = h n (omega arith) in
    rw (before, here) refl

-- one client more
pub all_added_next : (meant : ℕ → Bool) (places : ℕ → ℕ) (n : ℕ) (o : List Name)
    → all_added meant places (n + 1) o ≡ cond (meant n) (added n (places n) (all_added meant places n o)) (all_added meant places n o)
all_added_next meant places n o = let e : n + 1 ≡ suc n = omega arith in ap (λ k. all_added meant places k o) e

-- the order to which the names behind those that are counted were added
pub added_by_counts : (o o' : List Name) (counts : List ℕ) (c p : ℕ) → AreCounts o counts
    → o' ≡ o ++ names_from c (get_or counts c 0) (p - get_or counts c 0) → o' ≡ added c p o
added_by_counts o o' counts c p h e = e ∙ sym (added_is c p o (λ k. get_or counts k 0) h)

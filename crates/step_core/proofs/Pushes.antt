-- What holds of each element, by its number, holds with one more.
use Rattle.std.proofs.Common.{◌≡◌, ℕ, ◌+◌, ◌<◌, List, [], ◌∷◌, ◌++◌, length, inl, inr, sym, ap, ◌∙◌, subst, arith, length-append}
use Rattle.std.specs.Prelude.{slice_index_or}
use Rattle.std.proofs.lemmas.Bool.{cases_lt}
use Rattle.std.proofs.Math.ListN.{get_or-append}
use Rattle.std.proofs.Math.Seq.{get_or-append_seam}

pub each_more : {A : Type 0} (P : ℕ → A → Type 0) (n : ℕ) (xs ys : List A) (x : A) → ys ≡ xs ++ x ∷ [] → length xs ≡ n
    → ((i : ℕ) (d : A) → i < n → P i (slice_index_or xs i d)) → P n x
    → (i : ℕ) (d : A) → i < n + 1 → P i (slice_index_or ys i d)
each_more P n xs ys x e count h here i d lt = subst (λ zs. P i (slice_index_or zs i d)) (sym e) (elim (cases_lt i n) [
  | inl below ↦ rw (get_or-append xs (x ∷ []) d i (omega arith)) (h i d below)
  | inr past ↦
      let at : i ≡ length xs = omega arith in
      let same : i ≡ n = omega arith in
      subst (λ y. P i y) (sym (ap (λ k. slice_index_or (xs ++ x ∷ []) k d) at ∙ get_or-append_seam xs x [] d)) (subst (λ k. P k x) (sym same) here)
])

pub count_more : {A : Type 0} (n : ℕ) (xs ys : List A) (x : A) → ys ≡ xs ++ x ∷ [] → length xs ≡ n → length ys ≡ n + 1
count_more n xs ys x e count = ap length e ∙ length-append xs (x ∷ []) ∙ ap (λ k. k + 1) count

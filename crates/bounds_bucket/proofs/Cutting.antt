-- Ranges and rectangles that are cut.
use Rattle.std.proofs.Common.{◌≡◌, ◌∙◌, ℤ, ◌≤ℤ◌, ◌<ℤ◌, Bool, true, false, ◌&&◌, arith, refl, sym, ap, inl, inr}
use Rattle.std.specs.Prelude.{int_lt, int_le}
use Rattle.std.specs.Int.{int_min, int_max}
use Rattle.std.proofs.Math.Bool.{and-false}
use Rattle.std.proofs.lemmas.Int.{ints}
use Rattle.std.proofs.lemmas.Bool.{cases_Bool}
use Rattle.rc_base.specs.Drawing.Cover.{centre}
use Rattle.rc_base.specs.declared.window.Rect.{Rect}
use Rattle.plain_lemmas.proofs.Booleans.{same_test}
use Rattle.plain_lemmas.proofs.Numbers.{int_le_true, from_int_le, int_lt_true, from_int_lt, int_lt_false}
use Rattle.bounds_bucket.specs.Ranges.{is_among, IsPartWhere}
use Rattle.bounds_bucket.specs.Extents.{is_between}
use Rattle.bounds_bucket.specs.declared.extent.Ends.{Ends}
use Rattle.bounds_bucket.specs.declared.range.Range.{Range}
use Rattle.bounds_bucket.proofs.WholeNumbers.{max_le, lt_min, and_crossed}

pub between_is : (r : Range) (e : Ends) (first end from to : ℤ)
    → ((p : ℤ) → e.least ≤ℤ centre p → first ≤ℤ p) → ((p : ℤ) → first ≤ℤ p → e.least ≤ℤ centre p)
    → ((p : ℤ) → centre p ≤ℤ e.greatest → p <ℤ end) → ((p : ℤ) → p <ℤ end → centre p ≤ℤ e.greatest)
    → from ≡ int_max r.from first → to ≡ int_min r.end end
    → (p : ℤ) → (int_le from p && int_lt p to) ≡ (is_among r p && is_between e p)
between_is r e first end from to above below under over f t p =
    let low : int_le first p ≡ int_le e.least (centre p) =
    same_test _ _ (λ h. int_le_true e.least (centre p) (below p (from_int_le first p h))) (λ h. int_le_true first p (above p (from_int_le e.least (centre p) h))) in
    let high : int_lt p end ≡ int_le (centre p) e.greatest =
    same_test _ _ (λ h. int_le_true (centre p) e.greatest (over p (from_int_lt p end h))) (λ h. int_lt_true p end (under p (from_int_le (centre p) e.greatest h))) in
    let x : int_le from p ≡ (int_le r.from p && int_le e.least (centre p)) = ap (λ (z : ℤ). int_le z p) f ∙ max_le r.from first p ∙ ap (λ (b : Bool). int_le r.from p && b) low in
    let y : int_lt p to ≡ (int_lt p r.end && int_le (centre p) e.greatest) = ap (λ (z : ℤ). int_lt p z) t ∙ lt_min r.end end p ∙ ap (λ (b : Bool). int_lt p r.end && b) high in
    (λ i. x i && y i) ∙ and_crossed (int_le r.from p) (int_le e.least (centre p)) (int_lt p r.end) (int_le (centre p) e.greatest)

-- a range is empty that ends where it begins
pub end_at_start : (r : Range) (end p : ℤ) → end ≤ℤ r.from → (int_le r.from p && int_lt p r.from) ≡ (is_among r p && int_lt p end)
end_at_start r end p h =
    elim (cases_Bool (int_le r.from p)) [
      | inr f ↦ rw f refl
      | inl t ↦
          let from = from_int_le r.from p t in
          rw (t, int_lt_false p r.from from, int_lt_false p end (omega (arith, ints, from, h))) (sym (and-false (int_lt p r.end)))
    ]

pub end_within : (r : Range) (end p : ℤ) → end <ℤ r.end → (int_le r.from p && int_lt p end) ≡ (is_among r p && int_lt p end)
end_within r end p h =
    elim (cases_Bool (int_lt p end)) [
      | inr f ↦ rw f (and-false (int_le r.from p) ∙ sym (and-false (is_among r p)))
      | inl t ↦ let e = from_int_lt p end t in rw (t, int_lt_true p r.end (omega (arith, ints, e, h))) (and_true (int_le r.from p))
    ]
  where
    and_true : (b : Bool) → (b && true) ≡ ((b && true) && true)
    and_true true = refl
    and_true false = refl

pub cut_is : (r : Range) (low end from to : ℤ) → from ≡ int_max r.from low → ((p : ℤ) → (int_le r.from p && int_lt p to) ≡ (is_among r p && int_lt p end))
    → (p : ℤ) → (int_le from p && int_lt p to) ≡ (is_among r p && (int_le low p && int_lt p end))
cut_is r low end from to f cut p =
    ap (λ (z : ℤ). int_le z p && int_lt p to) f ∙ ap (λ (b : Bool). b && int_lt p to) (max_le r.from low p)
    ∙ middle (int_le r.from p) (int_le low p) (int_lt p to) ∙ ap (λ (b : Bool). b && int_le low p) (cut p)
    ∙ end_last (is_among r p) (int_lt p end) (int_le low p)
  where
    middle : (a b c : Bool) → ((a && b) && c) ≡ ((a && c) && b)
    middle true true true = refl
    middle true true false = refl
    middle true false true = refl
    middle true false false = refl
    middle false b c = refl

    end_last : (a b c : Bool) → ((a && b) && c) ≡ (a && (c && b))
    end_last true true true = refl
    end_last true true false = refl
    end_last true false true = refl
    end_last true false false = refl
    end_last false b c = refl

-- a rectangle whose columns and rows are cut by two tests
pub part_is : (rect part : Rect) (f g : ℤ → Bool)
    → ((p : ℤ) → (int_le part.x0 p && int_lt p part.x1) ≡ ((int_le rect.x0 p && int_lt p rect.x1) && f p))
    → ((p : ℤ) → (int_le part.y0 p && int_lt p part.y1) ≡ ((int_le rect.y0 p && int_lt p rect.y1) && g p))
    → IsPartWhere rect (λ x y. f x && g y) part
part_is rect part f g a b x y =
    (λ i. a x i && b y i) ∙ and_crossed (int_le rect.x0 x && int_lt x rect.x1) (f x) (int_le rect.y0 y && int_lt y rect.y1) (g y)

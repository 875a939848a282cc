-- Ranges of pixels whose centres lie in an interval.
use Rattle.std.proofs.Common.{◌≡◌, ◌∙◌, ℤ, pos, List, arith, ◌≤ℤ◌, ◌<ℤ◌, Bool, true, false, ◌&&◌, refl, ap}
use Rattle.std.specs.Prelude.{int_lt, int_le}
use Rattle.std.proofs.lemmas.Int.{ints}
use Rattle.rc_base.specs.Drawing.Cover.{centre}
use Rattle.rc_base.specs.Intervals.{interval_at}
use Rattle.rc_base.specs.declared.interval.Interval.{Interval}
use Rattle.rc_base.specs.Cluster.ObjectBox.{is_enclosed, may_be_near}
use Rattle.rc_base.specs.Drawing.Pieces.{near_w}
use Rattle.plain_lemmas.proofs.Booleans.{same_test}
use Rattle.plain_lemmas.proofs.Numbers.{int_le_true, from_int_le, int_lt_true, from_int_lt, from_int_lt_false}
use Rattle.bounds_bucket.specs.Ranges.{is_among}
use Rattle.bounds_bucket.specs.declared.range.Range.{Range}

-- what the first cut and the second cut leave
pub centred_is : (range cut part : Range) (i : Interval) (first end : ℤ)
    → ((p : ℤ) → i.lo ≤ℤ centre p → first ≤ℤ p) → ((p : ℤ) → first ≤ℤ p → i.lo ≤ℤ centre p)
    → ((p : ℤ) → centre p ≤ℤ i.hi → p <ℤ end) → ((p : ℤ) → p <ℤ end → centre p ≤ℤ i.hi)
    → ((p : ℤ) → is_among cut p ≡ (is_among range p && int_le first p)) → ((p : ℤ) → is_among part p ≡ (is_among cut p && int_lt p end))
    → (p : ℤ) → is_among part p ≡ (is_among range p && is_enclosed i (centre p))
centred_is range cut part i first end above below under over f g p =
    let low : int_le first p ≡ int_le i.lo (centre p) =
    same_test _ _ (λ h. int_le_true i.lo (centre p) (below p (from_int_le first p h))) (λ h. int_le_true first p (above p (from_int_le i.lo (centre p) h))) in
    let high : int_lt p end ≡ int_le (centre p) i.hi =
    same_test _ _ (λ h. int_le_true (centre p) i.hi (over p (from_int_lt p end h))) (λ h. int_lt_true p end (under p (from_int_le (centre p) i.hi h))) in
    g p ∙ ap (λ (b : Bool). b && int_lt p end) (f p) ∙ (λ k. (is_among range p && low k) && high k) ∙ and_assoc (is_among range p) (int_le i.lo (centre p)) (int_le (centre p) i.hi)
  where
    and_assoc : (a b c : Bool) → ((a && b) && c) ≡ (a && (b && c))
    and_assoc true b c = refl
    and_assoc false b c = refl

pub far_above : (d : List Interval) → may_be_near d ≡ false → pos 0 <ℤ (interval_at d 3).lo
far_above d h = let n = from_int_lt_false (interval_at d 3).lo (pos near_w) h in omega (arith, ints)

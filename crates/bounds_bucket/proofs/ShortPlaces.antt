-- What is in reach of positions that no matrix moves.
use Rattle.std.proofs.Common.{◌≡◌, ◌∙◌, ◌&&◌, ℤ, pos, ◌+ℤ◌, ◌*ℤ◌, ◌<ℤ◌, Bool, true, false, refl, sym, ap, arith}
use Rattle.std.specs.Prelude.{int_le, int_lt, if◌then◌else◌}
use Rattle.std.proofs.lemmas.Int.{ints}
use Rattle.rc_base.specs.Numbers.{entry, floor_quotient}
use Rattle.rc_base.specs.Cluster.Tiles.{is_in_rect}
use Rattle.rc_base.specs.Cluster.ObjectBox.{axis_over, clip_over, is_amid_places, is_enclosed, is_in_reach, may_be_near}
use Rattle.rc_base.specs.Drawing.Cover.{centre}
use Rattle.rc_base.specs.Intervals.{IsOrdered, OfEach, quotient_over, transformed_over}
use Rattle.rc_base.specs.declared.interval.Interval.{Interval}
use Rattle.rc_base.specs.declared.state.State.{State}
use Rattle.rc_base.specs.declared.window.Rect.{Rect}
use Rattle.plain_lemmas.proofs.Booleans.{same_test}
use Rattle.plain_lemmas.proofs.Numbers.{int_le_true, from_int_le}
use Rattle.bounds_bucket.specs.Hulls.{IsShort, interval_of, intervals_of}
use Rattle.bounds_bucket.specs.Ranges.{IsPartWhere}
use Rattle.bounds_bucket.specs.declared.hull.Hull.{Hull}
use Rattle.bounds_bucket.proofs.Cutting.{part_is}
use Rattle.bounds_bucket.proofs.Seen.{place_by_w}
use Rattle.bounds_bucket.proofs.Unmoved.{unmoved}

-- eight and sixteen times a number have its sign
same_sign : (s : ℤ) → int_le (pos 0) (s *ℤ pos 8) ≡ int_le (pos 0) (s *ℤ pos 16)
same_sign s = same_test (int_le (pos 0) (s *ℤ pos 8)) (int_le (pos 0) (s *ℤ pos 16))
    (λ h. let k = from_int_le (pos 0) (s *ℤ pos 8) h in int_le_true (pos 0) (s *ℤ pos 16) (omega (arith, ints, k)))
    (λ h. let k = from_int_le (pos 0) (s *ℤ pos 16) h in int_le_true (pos 0) (s *ℤ pos 8) (omega (arith, ints, k)))

pub least_is : (origin size : ℤ) (x w : Interval) → pos 0 <ℤ w.lo → IsOrdered w
    → (pos 16 *ℤ origin +ℤ (if int_le (pos 0) ((x.lo +ℤ w.lo) *ℤ size *ℤ pos 8) then floor_quotient ((x.lo +ℤ w.lo) *ℤ size *ℤ pos 8) w.hi else floor_quotient ((x.lo +ℤ w.lo) *ℤ size *ℤ pos 8) w.lo))
    ≡ (axis_over origin size x w).lo
unfolding axis_over quotient_over
least_is origin size x w above ordered =
    let s = (x.lo +ℤ w.lo) *ℤ size in
    let low = place_by_w s w.lo above in
    let high = place_by_w s w.hi (omega (arith, ints, above, ordered)) in
    λ i. pos 16 *ℤ origin +ℤ (if same_sign s i then sym high i else sym low i)

pub greatest_is : (origin size : ℤ) (x w : Interval) → pos 0 <ℤ w.lo → IsOrdered w
    → (pos 16 *ℤ origin +ℤ (if int_le (pos 0) ((x.hi +ℤ w.hi) *ℤ size *ℤ pos 8) then floor_quotient ((x.hi +ℤ w.hi) *ℤ size *ℤ pos 8) w.lo else floor_quotient ((x.hi +ℤ w.hi) *ℤ size *ℤ pos 8) w.hi))
    ≡ (axis_over origin size x w).hi
unfolding axis_over quotient_over
greatest_is origin size x w above ordered =
    let s = (x.hi +ℤ w.hi) *ℤ size in
    let low = place_by_w s w.lo above in
    let high = place_by_w s w.hi (omega (arith, ints, above, ordered)) in
    λ i. pos 16 *ℤ origin +ℤ (if same_sign s i then sym low i else sym high i)

-- ---- what is in reach

-- the clip coordinates are the positions' own
clip_is : (s : State) (h : Hull) → IsShort s → OfEach IsOrdered (intervals_of h) → clip_over s (intervals_of h) ≡ intervals_of h
unfolding clip_over
clip_is s h short ordered =
    let still : transformed_over s.modelview.m (intervals_of h) ≡ intervals_of h = ap (λ m. transformed_over m (intervals_of h)) short.modelview ∙ sym (unmoved (intervals_of h) ordered) in
    ap (transformed_over s.projection.m) still ∙ ap (λ m. transformed_over m (intervals_of h)) short.projection ∙ sym (unmoved (intervals_of h) ordered)

pub near_is : (rect : Rect) (s : State) (h : Hull) → IsShort s → OfEach IsOrdered (intervals_of h) → may_be_near (intervals_of h) ≡ true
    → IsPartWhere rect (is_in_reach s (clip_over s (intervals_of h))) rect
near_is rect s h short ordered near x y = rw (clip_is s h short ordered, near) (and_true (is_in_rect rect x y))
  where
    and_true : (b : Bool) → b ≡ (b && true)
    and_true true = refl
    and_true false = refl

pub amid_is : (rect part : Rect) (s : State) (h : Hull) → IsShort s → OfEach IsOrdered (intervals_of h) → may_be_near (intervals_of h) ≡ false
    → ((p : ℤ) → (int_le part.x0 p && int_lt p part.x1)
    ≡ ((int_le rect.x0 p && int_lt p rect.x1) && is_enclosed (axis_over (entry s.viewport 0) (entry s.viewport 2) (interval_of h.x) (interval_of h.w)) (centre p)))
    → ((p : ℤ) → (int_le part.y0 p && int_lt p part.y1)
    ≡ ((int_le rect.y0 p && int_lt p rect.y1) && is_enclosed (axis_over (entry s.viewport 1) (entry s.viewport 3) (interval_of h.y) (interval_of h.w)) (centre p)))
    → IsPartWhere rect (is_in_reach s (clip_over s (intervals_of h))) part
unfolding is_amid_places
amid_is rect part s h short ordered far across up x y =
    rw (clip_is s h short ordered, far)
    (part_is rect part (λ p. is_enclosed (axis_over (entry s.viewport 0) (entry s.viewport 2) (interval_of h.x) (interval_of h.w)) (centre p))
    (λ p. is_enclosed (axis_over (entry s.viewport 1) (entry s.viewport 3) (interval_of h.y) (interval_of h.w)) (centre p)) across up x y)

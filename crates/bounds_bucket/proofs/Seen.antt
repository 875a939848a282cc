-- Where vertices stand that the matrices don't move: factors taken out of their quotients.
use Rattle.std.proofs.Common.{◌≡◌, ℤ, ℕ, pos, neg_ℤ, ◌+ℤ◌, ◌-ℤ◌, ◌*ℤ◌, ◌<ℤ◌, ◌≤ℤ◌, Bool, true, false, not, ◌&&◌, ◌∙◌, ap, refl, sym, arith}
use lib.IntN.{*ℤ_comm}
use Rattle.std.proofs.lemmas.Int.{ints}
use Rattle.rc_base.specs.Numbers.{Within, entry, floor_quotient, is_within, transformed}
use Rattle.rc_base.specs.Drawing.Cover.{IsInBounds}
use Rattle.rc_base.specs.Drawing.Window.{clip_of, axis_of, depth_of, window_of, window_at, is_placed, is_placed_at, place_bound, depth_bound}
use Rattle.rc_base.specs.declared.state.State.{State}
use Rattle.rc_base.specs.declared.state.Vertex.{Vertex}
use Rattle.rc_base.specs.declared.window.WindowVertex.{WindowVertex}
use Rattle.fixed_math.specs.Bounds.{four}
use Rattle.geometry.specs.Placed.{FixesVectors, IsUsual}
use Rattle.fixed_math.proofs.Signed.{floor_at_most, floor_from_low, floor_to_high, times_assoc}
use Rattle.fixed_math.proofs.Signs.{above_is}
use Rattle.plain_lemmas.proofs.Numbers.{int_le_true, same_from_both_bounds}
use Rattle.bounds_bucket.specs.Still.{IsStill, StandsAt}

-- a factor of a divisor can be taken out of a product with it
times_out : (q w : ℤ) (k : ℕ) → q *ℤ (pos k *ℤ w) ≡ pos k *ℤ (q *ℤ w)
times_out q w k = *ℤ_comm q (pos k *ℤ w) ∙ times_assoc (pos k) w q ∙ ap (λ x. pos k *ℤ x) (*ℤ_comm w q)

pub place_by_w : (s w : ℤ) → pos 0 <ℤ w → floor_quotient (s *ℤ pos 16) (pos 2 *ℤ w) ≡ floor_quotient (s *ℤ pos 8) w
place_by_w s w h =
    let p = floor_quotient (s *ℤ pos 16) (pos 2 *ℤ w) in
    let q = floor_quotient (s *ℤ pos 8) w in
    let two : pos 0 <ℤ (pos 2 *ℤ w) = omega (arith, ints) in
    let a = floor_at_most (s *ℤ pos 16) (pos 2 *ℤ w) two in
    let b = floor_at_most (s *ℤ pos 8) w h in
    let e = times_out p w 2 in
    let f = times_out q w 2 in
    let g = *ℤ_comm p w in
    let i = *ℤ_comm q (pos 2 *ℤ w) in
    same_from_both_bounds p q
    (floor_from_low (s *ℤ pos 8) w p h (omega (arith, ints)))
    (floor_from_low (s *ℤ pos 16) (pos 2 *ℤ w) q two (omega (arith, ints)))

pub short_axis_is : (origin size x w : ℤ) → pos 0 <ℤ w → axis_of origin size x w ≡ pos 16 *ℤ origin +ℤ floor_quotient ((x +ℤ w) *ℤ size *ℤ pos 8) w
unfolding axis_of
short_axis_is origin size x w h = ap (λ q. pos 16 *ℤ origin +ℤ q) (place_by_w ((x +ℤ w) *ℤ size) w h)

within_is : (n : ℕ) (z : ℤ) → Within n z → is_within n z ≡ true
within_is n z h = rw (int_le_true (neg_ℤ (pos n)) z h.0, int_le_true z (pos n) h.1) refl

depth_in : (z w : ℤ) → pos 0 <ℤ w → neg_ℤ w ≤ℤ z → z ≤ℤ w → Within depth_bound (depth_of (pos 0) (pos 65536) z w)
unfolding depth_of
depth_in z w h low high =
    let n = ((pos 65536 -ℤ pos 0) *ℤ z +ℤ (pos 0 +ℤ pos 65536) *ℤ w) *ℤ pos 16777215 in
    let d : pos 0 <ℤ (pos 131072 *ℤ w) = omega (arith, ints) in
    let a = floor_from_low n (pos 131072 *ℤ w) (pos 0) d (omega (arith, ints)) in
    let b = floor_to_high n (pos 131072 *ℤ w) (pos 16777215) d (omega (arith, ints)) in
    (omega (arith, ints, a), omega (arith, ints, b))

-- what is known of a vertex that the matrices don't move
record IsSeen (s : State) (v : Vertex) : Type 0 where
  above : pos 0 <ℤ entry v.pos 3
  low : neg_ℤ (entry v.pos 3) ≤ℤ entry v.pos 2
  high : entry v.pos 2 ≤ℤ entry v.pos 3
  across : Within place_bound (axis_of (entry s.viewport 0) (entry s.viewport 2) (entry v.pos 0) (entry v.pos 3))
  up : Within place_bound (axis_of (entry s.viewport 1) (entry s.viewport 3) (entry v.pos 1) (entry v.pos 3))

placed : (s : State) (v : Vertex) → IsStill s → IsSeen s v → is_placed s v ≡ true
unfolding is_placed is_placed_at window_at
placed s v still h =
    let deep = depth_in (entry v.pos 2) (entry v.pos 3) h.above h.low h.high in
    rw (still.clip v, still.usual.near, still.usual.far)
    (λ i. above_is (entry v.pos 3) h.above i
    && (within_is place_bound (axis_of (entry s.viewport 0) (entry s.viewport 2) (entry v.pos 0) (entry v.pos 3)) h.across i
    && (within_is place_bound (axis_of (entry s.viewport 1) (entry s.viewport 3) (entry v.pos 1) (entry v.pos 3)) h.up i
    && within_is depth_bound (depth_of (pos 0) (pos 65536) (entry v.pos 2) (entry v.pos 3)) deep i)))

across_is : (s : State) (v : Vertex) → IsStill s → axis_of (entry s.viewport 0) (entry s.viewport 2) (entry v.pos 0) (entry v.pos 3) ≡ (window_of s v).x
unfolding window_of window_at
across_is s v still = rw (still.clip v) refl

up_is : (s : State) (v : Vertex) → IsStill s → axis_of (entry s.viewport 1) (entry s.viewport 3) (entry v.pos 1) (entry v.pos 3) ≡ (window_of s v).y
unfolding window_of window_at
up_is s v still = rw (still.clip v) refl

pub stands : (s : State) (v : Vertex) (p : WindowVertex) → IsStill s → pos 0 <ℤ entry v.pos 3 → neg_ℤ (entry v.pos 3) ≤ℤ entry v.pos 2 → entry v.pos 2 ≤ℤ entry v.pos 3
    → p.x ≡ axis_of (entry s.viewport 0) (entry s.viewport 2) (entry v.pos 0) (entry v.pos 3)
    → p.y ≡ axis_of (entry s.viewport 1) (entry s.viewport 3) (entry v.pos 1) (entry v.pos 3) → IsInBounds p → StandsAt s v p
stands s v p still above low high x y bounds =
    let across : Within place_bound (axis_of (entry s.viewport 0) (entry s.viewport 2) (entry v.pos 0) (entry v.pos 3)) = rw (sym x) (bounds.0) in
    let up : Within place_bound (axis_of (entry s.viewport 1) (entry s.viewport 3) (entry v.pos 1) (entry v.pos 3)) = rw (sym y) (bounds.1.0, bounds.1.1) in
    record {
      placed = placed s v still (record { above = above; low = low; high = high; across = across; up = up });
      x = x ∙ across_is s v still;
      y = y ∙ up_is s v still;
      bounds = bounds;
    }

pub still_by : (s : State) → FixesVectors s.modelview.m → FixesVectors s.projection.m → IsUsual s → IsStill s
unfolding clip_of
still_by s m p usual = record { clip = λ v. ap (transformed s.projection.m) (m v.pos) ∙ p (four v.pos); usual = usual }

pub from_not : (b : Bool) → not b ≡ false → b ≡ true
from_not true h = refl
from_not false h = absurd cc

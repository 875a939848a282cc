-- Vertices that the matrices don't move: factors taken out of their quotients.
use Rattle.std.proofs.Common.{◌≡◌, ℤ, ℕ, pos, ◌+ℤ◌, ◌-ℤ◌, ◌*ℤ◌, ◌<ℤ◌, ◌∙◌, ap, refl, sym, arith}
use lib.IntN.{*ℤ_comm}
use Rattle.std.proofs.lemmas.Int.{ints}
use Rattle.rc_base.specs.Numbers.{entry, floor_quotient, transformed}
use Rattle.rc_base.specs.Drawing.Window.{clip_of, axis_of, depth_of, window_of, window_at}
use Rattle.rc_base.specs.declared.state.State.{State}
use Rattle.rc_base.specs.declared.state.Vertex.{Vertex}
use Rattle.fixed_math.specs.Bounds.{four}
use Rattle.fixed_math.proofs.Signed.{floor_at_most, floor_greatest, floor_from_low, times_assoc}
use Rattle.plain_lemmas.proofs.Numbers.{same_from_both_bounds}
use Rattle.geometry.specs.Placed.{FixesVectors, IsUsual}
use Rattle.geometry.specs.Vertices.{vertex_with}

place_quotient : (s : ℤ) → floor_quotient (s *ℤ pos 16) (pos 131072) ≡ floor_quotient s (pos 8192)
place_quotient s =
    let a = floor_at_most s (pos 8192) (omega (arith, ints)) in
    let b = floor_greatest s (pos 8192) (omega (arith, ints)) in
    let c = floor_at_most (s *ℤ pos 16) (pos 131072) (omega (arith, ints)) in
    let d = floor_greatest (s *ℤ pos 16) (pos 131072) (omega (arith, ints)) in
    omega (arith, ints)

depth_quotient : (z : ℤ) → floor_quotient (((pos 65536 -ℤ pos 0) *ℤ z +ℤ (pos 0 +ℤ pos 65536) *ℤ pos 65536) *ℤ pos 16777215) (pos 8589934592) ≡ floor_quotient ((z +ℤ pos 65536) *ℤ pos 16777215) (pos 131072)
depth_quotient z =
    let s = (z +ℤ pos 65536) *ℤ pos 16777215 in
    let t = ((pos 65536 -ℤ pos 0) *ℤ z +ℤ (pos 0 +ℤ pos 65536) *ℤ pos 65536) *ℤ pos 16777215 in
    let a = floor_at_most s (pos 131072) (omega (arith, ints)) in
    let b = floor_greatest s (pos 131072) (omega (arith, ints)) in
    let c = floor_at_most t (pos 8589934592) (omega (arith, ints)) in
    let d = floor_greatest t (pos 8589934592) (omega (arith, ints)) in
    omega (arith, ints)

-- a factor of a divisor can be taken out of a product with it
times_out : (q w : ℤ) (k : ℕ) → q *ℤ (pos k *ℤ w) ≡ pos k *ℤ (q *ℤ w)
times_out q w k = *ℤ_comm q (pos k *ℤ w) ∙ times_assoc (pos k) w q ∙ ap (λ x. pos k *ℤ x) (*ℤ_comm w q)

place_by_w : (s w : ℤ) → pos 0 <ℤ w → floor_quotient (s *ℤ pos 16) (pos 2 *ℤ w) ≡ floor_quotient (s *ℤ pos 8) w
place_by_w s w h =
    let p = floor_quotient (s *ℤ pos 16) (pos 2 *ℤ w) in
    let q = floor_quotient (s *ℤ pos 8) w in
    let two : pos 0 <ℤ (pos 2 *ℤ w) = omega (arith, ints) in
    let a = floor_at_most (s *ℤ pos 16) (pos 2 *ℤ w) two in
    let b = floor_at_most (s *ℤ pos 8) w h in
    let e = times_out p w 2 in
    let f = times_out q w 2 in
    let g = *ℤ_comm p w in
    let i = *ℤ_comm q (pos 2 *ℤ w) in
    same_from_both_bounds p q
    (floor_from_low (s *ℤ pos 8) w p h (omega (arith, ints)))
    (floor_from_low (s *ℤ pos 16) (pos 2 *ℤ w) q two (omega (arith, ints)))

depth_by_w : (z w : ℤ) → pos 0 <ℤ w → floor_quotient (((pos 65536 -ℤ pos 0) *ℤ z +ℤ (pos 0 +ℤ pos 65536) *ℤ w) *ℤ pos 16777215) (pos 131072 *ℤ w) ≡ floor_quotient ((z +ℤ w) *ℤ pos 16777215) (pos 2 *ℤ w)
depth_by_w z w h =
    let m = ((pos 65536 -ℤ pos 0) *ℤ z +ℤ (pos 0 +ℤ pos 65536) *ℤ w) *ℤ pos 16777215 in
    let n = (z +ℤ w) *ℤ pos 16777215 in
    let p = floor_quotient m (pos 131072 *ℤ w) in
    let q = floor_quotient n (pos 2 *ℤ w) in
    let two : pos 0 <ℤ (pos 2 *ℤ w) = omega (arith, ints) in
    let more : pos 0 <ℤ (pos 131072 *ℤ w) = omega (arith, ints) in
    let a = floor_at_most m (pos 131072 *ℤ w) more in
    let b = floor_at_most n (pos 2 *ℤ w) two in
    let e1 = times_out p w 131072 in
    let e2 = times_out p w 2 in
    let f1 = times_out q w 131072 in
    let f2 = times_out q w 2 in
    let g = *ℤ_comm p (pos 2 *ℤ w) in
    let i = *ℤ_comm q (pos 131072 *ℤ w) in
    same_from_both_bounds p q
    (floor_from_low n (pos 2 *ℤ w) p two (omega (arith, ints)))
    (floor_from_low m (pos 131072 *ℤ w) q more (omega (arith, ints)))

pub short_axis_is : (origin size x w : ℤ) → pos 0 <ℤ w → axis_of origin size x w ≡ pos 16 *ℤ origin +ℤ floor_quotient ((x +ℤ w) *ℤ size *ℤ pos 8) w
unfolding axis_of
short_axis_is origin size x w h = ap (λ q. pos 16 *ℤ origin +ℤ q) (place_by_w ((x +ℤ w) *ℤ size) w h)

pub short_depth_is : (z w : ℤ) → pos 0 <ℤ w → depth_of (pos 0) (pos 65536) z w ≡ floor_quotient ((z +ℤ w) *ℤ pos 16777215) (pos 2 *ℤ w)
unfolding depth_of
short_depth_is z w h = depth_by_w z w h

-- half of a number, rounded down, has the quotient that the number has by twice the divisor
half_quotient : (n w : ℤ) → pos 0 <ℤ w → floor_quotient (floor_quotient n (pos 2)) w ≡ floor_quotient n (pos 2 *ℤ w)
half_quotient n w h =
    let half = floor_quotient n (pos 2) in
    let p = floor_quotient half w in
    let q = floor_quotient n (pos 2 *ℤ w) in
    let two : pos 0 <ℤ (pos 2 *ℤ w) = omega (arith, ints) in
    let a = floor_at_most n (pos 2) (omega (arith, ints)) in
    let b = floor_greatest n (pos 2) (omega (arith, ints)) in
    let c = floor_at_most half w h in
    let d = floor_at_most n (pos 2 *ℤ w) two in
    let e = times_out p w 2 in
    let f = times_out q w 2 in
    let g = *ℤ_comm q w in
    let i = *ℤ_comm p (pos 2 *ℤ w) in
    same_from_both_bounds p q
    (floor_from_low n (pos 2 *ℤ w) p two (omega (arith, ints)))
    (floor_from_low half w q h (omega (arith, ints)))

pub halved_depth_is : (z w : ℤ) → pos 0 <ℤ w → depth_of (pos 0) (pos 65536) z w ≡ floor_quotient (floor_quotient ((z +ℤ w) *ℤ pos 16777215) (pos 2)) w
halved_depth_is z w h = short_depth_is z w h ∙ sym (half_quotient ((z +ℤ w) *ℤ pos 16777215) w h)

pub unit_axis_is : (origin size x : ℤ) → axis_of origin size x (pos 65536) ≡ pos 16 *ℤ origin +ℤ floor_quotient ((x +ℤ pos 65536) *ℤ size) (pos 8192)
unfolding axis_of
unit_axis_is origin size x = ap (λ q. pos 16 *ℤ origin +ℤ q) (place_quotient ((x +ℤ pos 65536) *ℤ size))

pub unit_depth_is : (z : ℤ) → depth_of (pos 0) (pos 65536) z (pos 65536) ≡ floor_quotient ((z +ℤ pos 65536) *ℤ pos 16777215) (pos 131072)
unfolding depth_of
unit_depth_is z = depth_quotient z

-- clip coordinates where neither matrix moves a vector
pub clip_fixed : (s : State) (v : Vertex) → FixesVectors s.modelview.m → FixesVectors s.projection.m → clip_of s v ≡ four v.pos
unfolding clip_of
clip_fixed s v m p = ap (λ l. transformed s.projection.m l) (m v.pos) ∙ p (four v.pos)

pub still_window : (s : State) (v : Vertex) → clip_of s v ≡ four v.pos → IsUsual s
    → window_of s v ≡ vertex_with v (axis_of (entry s.viewport 0) (entry s.viewport 2) (entry v.pos 0) (entry v.pos 3))
    (axis_of (entry s.viewport 1) (entry s.viewport 3) (entry v.pos 1) (entry v.pos 3))
    (depth_of (pos 0) (pos 65536) (entry v.pos 2) (entry v.pos 3))
unfolding window_of window_at
still_window s v e u = rw (e, u.near, u.far) refl

pub unit_window : (s : State) (v : Vertex) → clip_of s v ≡ four v.pos → entry v.pos 3 ≡ pos 65536
    → window_of s v ≡ vertex_with v (axis_of (entry s.viewport 0) (entry s.viewport 2) (entry v.pos 0) (pos 65536))
    (axis_of (entry s.viewport 1) (entry s.viewport 3) (entry v.pos 1) (pos 65536))
    (depth_of (entry s.depth_range 0) (entry s.depth_range 1) (entry v.pos 2) (pos 65536))
unfolding window_of window_at
unit_window s v e w = rw (e, w) refl

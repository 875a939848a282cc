-- Tests of bounds, and which way a triangle faces.
use Rattle.std.proofs.Common.{◌≡◌, ℕ, ◌<◌, ◌^◌, ℤ, pos, neg_ℤ, ◌<ℤ◌, ◌≤ℤ◌, true, false, ◌&&◌, arith, FitsSigned, w32, ap, not, int_eq, ◌-ℤ◌, Option, Some, None, MatchOption, subst}
use Rattle.std.specs.Prelude.{if◌then◌else◌}
use Rattle.std.proofs.lemmas.Int.{ints}
use Rattle.std.proofs.Math.IntN.{*ℤ_comm}
use Rattle.std.proofs.lemmas.Bool.{and_parts, and_from, and_right, not_from_true, not_from_false}
use Rattle.std.proofs.lemmas.Bool.Decides.{Decides-int_eq}
use borrow.Author.Differences.{same_in, same_out, sum_is_lem, neg_is}
use Rattle.rc_base.specs.Numbers.{Within, entry, is_within}
use Rattle.rc_base.specs.Drawing.Cover.{triangle_area, IsInBounds}
use Rattle.rc_base.specs.Drawing.Window.{clip_of, window_of, is_in_bounds, is_placed, is_placed_at, place_bound, depth_bound}
use Rattle.rc_base.specs.Drawing.Kept.{three, is_culled, is_shown, oriented, clip_corners, is_kept_at, kept_at, kept_of}
use Rattle.geometry.specs.Placed.{IsPlace}
use Rattle.fixed_math.proofs.Signs.{above_is, not_below_is, off}
use Rattle.rc_base.specs.declared.state.State.{State}
use Rattle.rc_base.specs.declared.state.Vertex.{Vertex}
use Rattle.rc_base.specs.declared.window.WindowVertex.{WindowVertex}
use Rattle.rc_base.specs.declared.triangle.WindowTriangle.{WindowTriangle}

pub within_fits : (n : ℕ) (z : ℤ) → n < 2 ^ 31 → is_within n z ≡ true → FitsSigned w32 z
within_fits n z h e = grind (arith, ints)

pub placed_is : (s : State) (v : Vertex) → pos 0 <ℤ entry (clip_of s v) 3 → is_placed s v ≡ is_in_bounds (window_of s v)
unfolding is_placed is_placed_at window_of
placed_is s v h = ap (λ t. t && is_in_bounds (window_of s v)) (above_is (entry (clip_of s v) 3) h)

pub not_shown_flat : (s : State) (a : ℤ) → a ≡ pos 0 → is_shown s a ≡ false
unfolding is_shown
not_shown_flat s a e = ap (λ t. not t && not (is_culled s a)) ((Decides-int_eq a (pos 0)).1 e)

pub not_shown_culled : (s : State) (a : ℤ) → is_culled s a ≡ true → is_shown s a ≡ false
unfolding is_shown
not_shown_culled s a e = and_right (not (int_eq a (pos 0))) (not (is_culled s a)) (not_from_true (is_culled s a) e)

pub shown : (s : State) (a : ℤ) → (a ≡ pos 0 → ⊥) → is_culled s a ≡ false → is_shown s a ≡ true
unfolding is_shown
shown s a n e = and_from (not (int_eq a (pos 0))) (not (is_culled s a)) (not_from_false (int_eq a (pos 0)) (off a n)) (not_from_false (is_culled s a) e)

pub left_as_is : (a b c : WindowVertex) → pos 0 ≤ℤ triangle_area (three a b c) → oriented a b c ≡ three a b c
unfolding oriented
left_as_is a b c h = ap (λ t. if t then three a c b else three a b c) (not_below_is (triangle_area (three a b c)) h)

pub area_turned : (a b c : WindowVertex) → triangle_area (three a c b) ≡ neg_ℤ (triangle_area (three a b c))
area_turned a b c =
    let e = *ℤ_comm (b.x -ℤ a.x) (c.y -ℤ a.y) in
    let f = *ℤ_comm (b.y -ℤ a.y) (c.x -ℤ a.x) in
    omega (arith, same_in, same_out, sum_is_lem, neg_is)

pub vertex_bounds : (v : WindowVertex) → is_in_bounds v ≡ true → IsInBounds v
vertex_bounds v e =
    let p = and_parts _ _ e in
    let q = and_parts _ _ p.1 in
    (bounds place_bound v.x p.0, bounds place_bound v.y q.0, bounds depth_bound v.z q.1)
  where
    bounds : (n : ℕ) (z : ℤ) → is_within n z ≡ true → Within n z
    bounds n z e = (grind (arith, ints), grind (arith, ints))

pub dropped : (s : State) (a b c : Vertex) → is_kept_at s (clip_corners s a b c) ≡ false → kept_of s a b c ≡ None
unfolding kept_of kept_at window_of
dropped s a b c h = ap (λ t. if t then Some (oriented (window_of s a) (window_of s b) (window_of s c)) else None) h

pub kept_is : (s : State) (a b c : Vertex) → is_kept_at s (clip_corners s a b c) ≡ true → kept_of s a b c ≡ Some (oriented (window_of s a) (window_of s b) (window_of s c))
unfolding kept_of kept_at window_of
kept_is s a b c h = ap (λ t. if t then Some (oriented (window_of s a) (window_of s b) (window_of s c)) else None) h

pub kept_whole : (s : State) (a b c : Vertex) (r : Option WindowTriangle)
    → MatchOption r (is_kept_at s (clip_corners s a b c) ≡ false) (λ t. (is_kept_at s (clip_corners s a b c) ≡ true) × (t.v ≡ oriented (window_of s a) (window_of s b) (window_of s c)))
    → MatchOption r (kept_of s a b c ≡ None) (λ t. kept_of s a b c ≡ Some t.v)
kept_whole s a b c None h = dropped s a b c h
kept_whole s a b c (Some t) h = rw (h.1) (kept_is s a b c h.0)

-- the vertex in window coordinates, where it was judged by the bounds
pub place_of : (s : State) (v : Vertex) (a : WindowVertex) (r : Option WindowVertex) → pos 0 <ℤ entry (clip_of s v) 3 → a ≡ window_of s v
    → MatchOption r (is_in_bounds a ≡ false) (λ p. (is_in_bounds a ≡ true) × (p ≡ a) × IsInBounds p) → IsPlace s v r
place_of s v a r h q n =
    let m : MatchOption r (is_in_bounds (window_of s v) ≡ false) (λ p. (is_in_bounds (window_of s v) ≡ true) × (p ≡ window_of s v) × IsInBounds p) =
    subst (λ (b : WindowVertex). MatchOption r (is_in_bounds b ≡ false) (λ p. (is_in_bounds b ≡ true) × (p ≡ b) × IsInBounds p)) q n in
    rw (placed_is s v h) m

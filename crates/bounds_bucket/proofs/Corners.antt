-- The positions of corners lie in what they spread over, and their clip coordinates in what that gives.
use Rattle.std.proofs.Common.{ℕ, ℤ, ◌≤ℤ◌, List, [], ◌∷◌, map, fold, length, ◌<◌, arith, refl}
use Rattle.std.specs.Int.{int_min, int_max}
use Rattle.std.specs.List.{AllByRecursion}
use Rattle.std.proofs.lemmas.Int.{ints, fold-int_min_bounds, fold-int_max_bounds}
use Rattle.std.proofs.lemmas.List.Elements.{recursion_from_All}
use Rattle.rc_base.specs.Numbers.{entry, transformed}
use Rattle.rc_base.specs.Drawing.Window.{clip_of}
use Rattle.rc_base.specs.declared.state.State.{State}
use Rattle.rc_base.specs.declared.state.Vertex.{Vertex}
use Rattle.rc_base.specs.Intervals.{Encloses, IsOrdered, EncloseEach, interval_at, transformed_over}
use Rattle.rc_base.specs.declared.interval.Interval.{Interval}
use Rattle.fixed_math.proofs.IntervalEnds.{row_in}
use Rattle.rc_base.specs.Cluster.ObjectBox.{coordinates, hull_of, bounding_box, clip_over}

both_ends : (i : Interval) (zs : List ℤ) → AllByRecursion (λ z. i.lo ≤ℤ z) zs → AllByRecursion (λ z. z ≤ℤ i.hi) zs → AllByRecursion (Encloses i) zs
both_ends i [] h k = tt
both_ends i (z ∷ zs) h k = (record { low = h.0; high = k.0 }, both_ends i zs h.1 k.1)

-- numbers lie in their spread
spread_holds : (zs : List ℤ) → AllByRecursion (Encloses (hull_of zs)) zs
unfolding hull_of
spread_holds zs =
    both_ends (record { lo = fold int_min (entry zs 0) zs; hi = fold int_max (entry zs 0) zs }) zs
    (recursion_from_All (λ z. fold int_min (entry zs 0) zs ≤ℤ z) zs (fold-int_min_bounds (entry zs 0) zs (fold int_min (entry zs 0) zs) refl).1)
    (recursion_from_All (λ z. z ≤ℤ fold int_max (entry zs 0) zs) zs (fold-int_max_bounds (entry zs 0) zs (fold int_max (entry zs 0) zs) refl).1)

unmapped : (P : ℤ → Type 0) (f : Vertex → ℤ) (vs : List Vertex) → AllByRecursion P (map f vs) → AllByRecursion (λ v. P (f v)) vs
unmapped P f [] h = tt
unmapped P f (v ∷ vs) h = (h.0, unmapped P f vs h.1)

-- the position lies in the intervals
abbrev pub IsPlacedIn : List Interval → Vertex → Type 0
IsPlacedIn b v = EncloseEach b v.pos

together : (b : List Interval) (vs : List Vertex)
    → AllByRecursion (λ (v : Vertex). Encloses (interval_at b 0) (entry v.pos 0)) vs → AllByRecursion (λ (v : Vertex). Encloses (interval_at b 1) (entry v.pos 1)) vs
    → AllByRecursion (λ (v : Vertex). Encloses (interval_at b 2) (entry v.pos 2)) vs → AllByRecursion (λ (v : Vertex). Encloses (interval_at b 3) (entry v.pos 3)) vs
    → AllByRecursion (IsPlacedIn b) vs
together b [] h i j k = tt
together b (v ∷ vs) h i j k = (record { first = h.0; second = i.0; third = j.0; fourth = k.0 }, together b vs h.1 i.1 j.1 k.1)

-- coordinate c of vertices lies in its spread
spread_at : (c : ℕ) (vs : List Vertex) → AllByRecursion (λ (v : Vertex). Encloses (hull_of (coordinates c vs)) (entry v.pos c)) vs
spread_at c vs = unmapped (Encloses (hull_of (coordinates c vs))) (λ (v : Vertex). entry v.pos c) vs (spread_holds (coordinates c vs))

-- numbers have a least one, which is at most the greatest
pub spread_ordered : (c : ℕ) (vs : List Vertex) → 0 < length vs → IsOrdered (hull_of (coordinates c vs))
spread_ordered c [] some = absurd (omega arith)
spread_ordered c (v ∷ vs) some = let h = (spread_at c (v ∷ vs)).0 in let a = h.low in let b = h.high in omega (arith, ints)

pub positions_held : (vs : List Vertex) → AllByRecursion (IsPlacedIn (bounding_box vs)) vs
unfolding bounding_box
positions_held vs = together _ vs (spread_at 0 vs) (spread_at 1 vs) (spread_at 2 vs) (spread_at 3 vs)

transformed_in : (m : List ℤ) (b : List Interval) (v : List ℤ) → EncloseEach b v → EncloseEach (transformed_over m b) (transformed m v)
unfolding transformed_over
transformed_in m b v h = record { first = row_in m 0 b v h; second = row_in m 1 b v h; third = row_in m 2 b v h; fourth = row_in m 3 b v h }

pub clip_in : (s : State) (b : List Interval) (v : Vertex) → IsPlacedIn b v → EncloseEach (clip_over s b) (clip_of s v)
unfolding clip_over clip_of
clip_in s b v h =
    transformed_in s.projection.m (transformed_over s.modelview.m b) (transformed s.modelview.m v.pos) (transformed_in s.modelview.m b v.pos h)

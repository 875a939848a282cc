-- The bounding box of a block's corners is the bounding box of its first vertices.
use Rattle.std.proofs.Common.{◌≡◌, ℕ, zero, suc, ◌<◌, ◌≤◌, ℤ, pos, ◌≤ℤ◌, Bool, true, false, List, [], ◌∷◌, length, length-take, get_or-take, fold, take, refl, sym, ◌∙◌, subst, arith, inl, inr}
use Rattle.std.specs.Prelude.{nat_lt, if◌then◌else◌}
use Rattle.std.specs.Int.{int_min, int_max}
use Rattle.std.specs.List.{AllByRecursion, All, Contains, flat_map}
use Rattle.std.proofs.lemmas.Int.{fold-int_min_bounds, fold-int_max_bounds, fold-int_min_reached, fold-int_max_reached}
use Rattle.std.proofs.lemmas.Bool.Decides.{nat_tests}
use Rattle.std.proofs.lemmas.List.Elements.{All-from_recursion, recursion_from_All, All-contains, Contains-get_or}
use Rattle.std.proofs.lemmas.List.{get_or_default}
use Rattle.rc_base.specs.Numbers.{entry}
use Rattle.rc_base.specs.Colors.{rgba}
use Rattle.rc_base.specs.Drawing.Kept.{vertex_at}
use Rattle.rc_base.specs.declared.state.Block.{Block}
use Rattle.rc_base.specs.declared.state.Vertex.{Vertex}
use Rattle.rc_base.specs.Drawing.Triangles.{shape_of, triangles_in}
use Rattle.rc_base.specs.Cluster.ObjectBox.{block_corners, coordinates, hull_of, bounding_box}
use Rattle.plain_lemmas.proofs.Numbers.{same_from_both_bounds}
use Rattle.bounds_bucket.specs.Standing.{standing_count}
use Rattle.bounds_bucket.proofs.Fronts.{no_standing, each_index, of_indices, some_stand, corners_by, corners_held, corners_out}

-- ---- least and greatest, by what holds of all

some_entry : (zs : List ℤ) → 0 < length zs → Contains zs (entry zs 0)
some_entry zs h = Contains-get_or zs 0 (pos 0) h

least_is_one : (zs : List ℤ) → 0 < length zs → Contains zs (fold int_min (entry zs 0) zs)
least_is_one zs h =
    elim (fold-int_min_reached (entry zs 0) zs (fold int_min (entry zs 0) zs) refl) [
      | inl e ↦ subst (Contains zs) (sym e) (some_entry zs h)
      | inr c ↦ c
    ]

greatest_is_one : (zs : List ℤ) → 0 < length zs → Contains zs (fold int_max (entry zs 0) zs)
greatest_is_one zs h =
    elim (fold-int_max_reached (entry zs 0) zs (fold int_max (entry zs 0) zs) refl) [
      | inl e ↦ subst (Contains zs) (sym e) (some_entry zs h)
      | inr c ↦ c
    ]

-- a bound of one list's numbers that is a bound of another's, whose least or greatest number is one of them
least_above : (m : ℤ) (zs : List ℤ) → 0 < length zs → All (λ z. m ≤ℤ z) zs → m ≤ℤ fold int_min (entry zs 0) zs
least_above m zs some h = All-contains (λ z. m ≤ℤ z) zs (fold int_min (entry zs 0) zs) h (least_is_one zs some)

greatest_below : (m : ℤ) (zs : List ℤ) → 0 < length zs → All (λ z. z ≤ℤ m) zs → fold int_max (entry zs 0) zs ≤ℤ m
greatest_below m zs some h = All-contains (λ z. z ≤ℤ m) zs (fold int_max (entry zs 0) zs) h (greatest_is_one zs some)

-- two lists of vertices of which the same things hold
record AreAlike (c : ℕ) (us vs : List Vertex) : Type 0 where
  above : (m : ℤ) → AllByRecursion (λ (v : Vertex). m ≤ℤ entry v.pos c) us → AllByRecursion (λ (v : Vertex). m ≤ℤ entry v.pos c) vs
  below : (m : ℤ) → AllByRecursion (λ (v : Vertex). entry v.pos c ≤ℤ m) us → AllByRecursion (λ (v : Vertex). entry v.pos c ≤ℤ m) vs

unmapped : (P : ℤ → Type 0) (c : ℕ) (vs : List Vertex) → AllByRecursion P (coordinates c vs) → AllByRecursion (λ (v : Vertex). P (entry v.pos c)) vs
unmapped P c [] h = tt
unmapped P c (v ∷ vs) h = (h.0, unmapped P c vs h.1)

mapped : (P : ℤ → Type 0) (c : ℕ) (vs : List Vertex) → AllByRecursion (λ (v : Vertex). P (entry v.pos c)) vs → AllByRecursion P (coordinates c vs)
mapped P c [] h = tt
mapped P c (v ∷ vs) h = (h.0, mapped P c vs h.1)

some_coordinate : (c : ℕ) (vs : List Vertex) → 0 < length vs → 0 < length (coordinates c vs)
some_coordinate c [] h = absurd (omega arith)
some_coordinate c (v ∷ vs) h = omega arith

hull_same : (zs ys : List ℤ) → fold int_min (entry zs 0) zs ≡ fold int_min (entry ys 0) ys → fold int_max (entry zs 0) zs ≡ fold int_max (entry ys 0) ys → hull_of zs ≡ hull_of ys
unfolding hull_of
hull_same zs ys e f = λ i. record { lo = e i; hi = f i }

lower : (c : ℕ) (us vs : List Vertex) → 0 < length vs → AreAlike c us vs → fold int_min (entry (coordinates c us) 0) (coordinates c us) ≤ℤ fold int_min (entry (coordinates c vs) 0) (coordinates c vs)
lower c us vs some h =
    let m = fold int_min (entry (coordinates c us) 0) (coordinates c us) in
    let all = recursion_from_All (λ z. m ≤ℤ z) (coordinates c us) (fold-int_min_bounds (entry (coordinates c us) 0) (coordinates c us) m refl).1 in
    least_above m (coordinates c vs) (some_coordinate c vs some)
    (All-from_recursion (λ z. m ≤ℤ z) (coordinates c vs) (mapped (λ z. m ≤ℤ z) c vs (h.above m (unmapped (λ z. m ≤ℤ z) c us all))))

higher : (c : ℕ) (us vs : List Vertex) → 0 < length vs → AreAlike c us vs → fold int_max (entry (coordinates c vs) 0) (coordinates c vs) ≤ℤ fold int_max (entry (coordinates c us) 0) (coordinates c us)
higher c us vs some h =
    let m = fold int_max (entry (coordinates c us) 0) (coordinates c us) in
    let all = recursion_from_All (λ z. z ≤ℤ m) (coordinates c us) (fold-int_max_bounds (entry (coordinates c us) 0) (coordinates c us) m refl).1 in
    greatest_below m (coordinates c vs) (some_coordinate c vs some)
    (All-from_recursion (λ z. z ≤ℤ m) (coordinates c vs) (mapped (λ z. z ≤ℤ m) c vs (h.below m (unmapped (λ z. z ≤ℤ m) c us all))))

same_hull : (c : ℕ) (us vs : List Vertex) → 0 < length us → 0 < length vs → AreAlike c us vs → AreAlike c vs us → hull_of (coordinates c us) ≡ hull_of (coordinates c vs)
same_hull c us vs p q h k =
    hull_same (coordinates c us) (coordinates c vs)
    (same_from_both_bounds _ _ (lower c us vs q h) (lower c vs us p k))
    (same_from_both_bounds _ _ (higher c vs us p k) (higher c us vs q h))

-- ---- the corners of a block and its first vertices

front : Block → List Vertex
front block = take (standing_count (shape_of block.mode) (length block.vertices)) block.vertices

few : (shape n : ℕ) → standing_count shape n ≤ n
unfolding standing_count
few zero n = omega arith
few (suc zero) n = by (nat_lt n 3)
  where
    by : (t : Bool) → (if t then 0 else n) ≤ n
    by true = omega arith
    by false = omega arith
few (suc (suc zero)) n = by (nat_lt n 3)
  where
    by : (t : Bool) → (if t then 0 else n) ≤ n
    by true = omega arith
    by false = omega arith
few (suc (suc (suc m))) n = subst (λ k. k ≤ n) (sym (no_standing (suc (suc (suc m))) n (omega arith))) (omega arith)

to_front : (P : Vertex → Type 0) (block : Block) → AllByRecursion P (block_corners block) → AllByRecursion P (front block)
unfolding front
to_front P block h =
    let count = standing_count (shape_of block.mode) (length block.vertices) in
    let each = each_index (λ i. P (vertex_at block.vertices i)) (shape_of block.mode) (length block.vertices) (corners_out P block.vertices (triangles_in block) h) in
    recursion_from_All P (take count block.vertices) (λ i d l.
    let b = length-take count block.vertices in
    let below : i < count = omega arith in
    let inside : i < length block.vertices = omega arith in
    subst P (sym (get_or-take count block.vertices i d below ∙ get_or_default block.vertices i d (record { pos = []; color = rgba 0 0 0 0; s = pos 0; t = pos 0 }) inside)) (each i below))

from_front : (P : Vertex → Type 0) (block : Block) → AllByRecursion P (front block) → AllByRecursion P (block_corners block)
unfolding front
from_front P block h =
    let count = standing_count (shape_of block.mode) (length block.vertices) in
    let all : All P (take count block.vertices) = All-from_recursion P (take count block.vertices) h in
    corners_held P block.vertices (triangles_in block)
    (of_indices (λ i. P (vertex_at block.vertices i)) (shape_of block.mode) (length block.vertices) (λ i l.
    let b = length-take count block.vertices in
    let f = few (shape_of block.mode) (length block.vertices) in
    let n : Vertex = record { pos = []; color = rgba 0 0 0 0; s = pos 0; t = pos 0 } in
    subst P (get_or-take count block.vertices i n l) (all i n (omega arith))))

alike : (c : ℕ) (block : Block) → AreAlike c (block_corners block) (front block)
alike c block = record { above = λ m. to_front (λ (v : Vertex). m ≤ℤ entry v.pos c) block; below = λ m. to_front (λ (v : Vertex). entry v.pos c ≤ℤ m) block }

alike_too : (c : ℕ) (block : Block) → AreAlike c (front block) (block_corners block)
alike_too c block = record { above = λ m. from_front (λ (v : Vertex). m ≤ℤ entry v.pos c) block; below = λ m. from_front (λ (v : Vertex). entry v.pos c ≤ℤ m) block }

above_is : (k : ℕ) → 0 < k → nat_lt 0 k ≡ true
above_is k h = grind (arith, nat_tests)

above_of : (k : ℕ) → nat_lt 0 k ≡ true → 0 < k
above_of k h = grind (arith, nat_tests)

some_corner : (vs : List Vertex) (ts : List (List ℕ)) → 0 < length ts → 0 < length (flat_map (corners_by vs) ts)
some_corner vs [] h = absurd (omega arith)
some_corner vs (t ∷ ts) h = omega arith

pub front_hull : (block : Block) → 0 < standing_count (shape_of block.mode) (length block.vertices)
    → bounding_box (take (standing_count (shape_of block.mode) (length block.vertices)) block.vertices) ≡ bounding_box (block_corners block)
unfolding bounding_box front
front_hull block some =
    let stands : nat_lt 0 (length (triangles_in block)) ≡ true = some_stand (shape_of block.mode) (length block.vertices) ∙ above_is (standing_count (shape_of block.mode) (length block.vertices)) some in
    let p : 0 < length (block_corners block) = some_corner block.vertices (triangles_in block) (above_of (length (triangles_in block)) stands) in
    let b = length-take (standing_count (shape_of block.mode) (length block.vertices)) block.vertices in
    let f = few (shape_of block.mode) (length block.vertices) in
    let q : 0 < length (front block) = omega arith in
    let e = λ (c : ℕ). same_hull c (front block) (block_corners block) q p (alike_too c block) (alike c block) in
    λ i. e 0 i ∷ e 1 i ∷ e 2 i ∷ e 3 i ∷ []

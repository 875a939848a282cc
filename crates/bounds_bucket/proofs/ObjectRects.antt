-- When a rectangle is the box of a block of version 2.
use Rattle.std.proofs.Common.{◌≡◌, ◌∙◌, ℕ, ◌<◌, ◌≤◌, ℤ, pos, ◌+ℤ◌, ◌<ℤ◌, Bool, true, false, ◌&&◌, List, length, take, arith, refl, sym, ap, inl, inr, ◌⊎◌}
use Rattle.std.specs.Prelude.{nat_lt}
use Rattle.std.proofs.lemmas.Int.{ints}
use Rattle.std.proofs.lemmas.Bool.{and_parts}
use Rattle.std.proofs.lemmas.Bool.Decides.{nat_tests}
use Rattle.std.proofs.Math.Bool.{and-false}
use Rattle.rc_base.specs.Numbers.{entry}
use Rattle.rc_base.specs.Cluster.Tiles.{is_in_rect, is_in_window_box, is_in_box}
use Rattle.rc_base.specs.Drawing.Cover.{is_in_area, is_in_scissor}
use Rattle.rc_base.specs.declared.state.Block.{Block}
use Rattle.rc_base.specs.declared.state.Effect.TheVariants as eff
use Rattle.rc_base.specs.declared.state.State.{State}
use Rattle.rc_base.specs.declared.window.Rect.{Rect}
use Rattle.rc_base.specs.declared.interval.Interval.{Interval}
use Rattle.rc_base.specs.Drawing.Triangles.{cut_modes, shape_of, triangles_in}
use Rattle.rc_base.specs.Cluster.ObjectBox.{bounding_box, clip_over, is_in_reach, block_clip, is_in_object_box}
use Rattle.plain_lemmas.proofs.Numbers.{from_int_le, from_int_lt}
use Rattle.bounds_bucket.specs.Ranges.{IsPartWhere}
use Rattle.bounds_bucket.specs.Standing.{standing_count}
use Rattle.bounds_bucket.specs.Boxes.{is_boxed, IsEmptyBox}
use Rattle.bounds_bucket.proofs.Fronts.{some_stand}
use Rattle.bounds_bucket.proofs.Hulls.{front_hull}
use Rattle.bounds_bucket.proofs.WholeNumbers.{and_last}

above_is : (k : ℕ) → 0 < k → nat_lt 0 k ≡ true
above_is k h = grind (arith, nat_tests)

none_is : (k : ℕ) → k ≡ 0 → nat_lt 0 k ≡ false
none_is k h = grind (arith, nat_tests)

-- ---- which box a block has

pub object_is : (s : State) (block : Block) (x y : ℤ) → cut_modes ≤ block.mode → is_in_box s (eff.Block block) x y ≡ is_in_object_box s block x y
unfolding is_in_box
object_is s block x y h = rw (late block.mode h) refl
  where
    late : (m : ℕ) → cut_modes ≤ m → nat_lt m cut_modes ≡ false
    late m h = grind (arith, nat_tests)

pub window_is : (s : State) (block : Block) (x y : ℤ) → block.mode < cut_modes → is_in_box s (eff.Block block) x y ≡ is_in_window_box s block x y
unfolding is_in_box
window_is s block x y h = rw (early block.mode h) refl
  where
    early : (m : ℕ) → m < cut_modes → nat_lt m cut_modes ≡ true
    early m h = grind (arith, nat_tests)

-- what is in the box of a block of version 2
boxed_object : (s : State) (block : Block) (window : Rect) (x y : ℤ) → cut_modes ≤ block.mode → is_boxed s (eff.Block block) window x y ≡ (is_in_rect window x y && is_in_object_box s block x y)
boxed_object s block window x y h = ap (λ (u : Bool). is_in_rect window x y && u) (object_is s block x y h)

-- ---- no box

pub no_corner : (s : State) (block : Block) (window : Rect) → cut_modes ≤ block.mode → standing_count (shape_of block.mode) (length block.vertices) ≡ 0 → IsEmptyBox s (eff.Block block) window
unfolding is_in_object_box
no_corner s block window mode h x y =
    boxed_object s block window x y mode
    ∙ (let none : nat_lt 0 (length (triangles_in block)) ≡ false = some_stand (shape_of block.mode) (length block.vertices) ∙ none_is _ h in
    rw none (and-false (is_in_rect window x y)))

no_area : (area : List ℤ) (x y : ℤ) → ((entry area 2 <ℤ pos 0) ⊎ (entry area 3 <ℤ pos 0)) → is_in_area area x y ≡ false
no_area area x y h = by (is_in_area area x y) refl
  where
    by : (t : Bool) → is_in_area area x y ≡ t → t ≡ false
    by false e = refl
    by true e =
        let p = and_parts _ _ e in
        let c = and_parts _ _ p.0 in
        let r = and_parts _ _ p.1 in
        let a = from_int_le (entry area 0) x c.0 in
        let b = from_int_lt x (entry area 0 +ℤ entry area 2) c.1 in
        let d = from_int_le (entry area 1) y r.0 in
        let f = from_int_lt y (entry area 1 +ℤ entry area 3) r.1 in
        absurd (elim h [ inl k ↦ omega (arith, ints) | inr k ↦ omega (arith, ints) ])

pub no_viewport : (s : State) (block : Block) (window : Rect) → cut_modes ≤ block.mode → ((entry s.viewport 2 <ℤ pos 0) ⊎ (entry s.viewport 3 <ℤ pos 0)) → IsEmptyBox s (eff.Block block) window
unfolding is_in_object_box
no_viewport s block window mode h x y =
    boxed_object s block window x y mode
    ∙ rw (no_area s.viewport x y h)
    (never (is_in_rect window x y) (nat_lt 0 (length (triangles_in block))) (is_in_reach s (block_clip s block) x y))
  where
    never : (a b c : Bool) → (a && (b && (c && false))) ≡ false
    never true true c = and-false c
    never true false c = refl
    never false b c = refl

-- ---- a box

pub boxed : (s : State) (block : Block) (window a b r : Rect) (d : List Interval) → cut_modes ≤ block.mode → 0 < standing_count (shape_of block.mode) (length block.vertices)
    → d ≡ clip_over s (bounding_box (take (standing_count (shape_of block.mode) (length block.vertices)) block.vertices))
    → IsPartWhere window (is_in_reach s d) a → IsPartWhere a (is_in_area s.viewport) b → IsPartWhere b (is_in_scissor s) r
    → (x y : ℤ) → is_in_rect r x y ≡ is_boxed s (eff.Block block) window x y
unfolding is_in_object_box
boxed s block window a b r d mode some e p q t x y =
    let stands : nat_lt 0 (length (triangles_in block)) ≡ true = some_stand (shape_of block.mode) (length block.vertices) ∙ above_is _ some in
    let same : d ≡ block_clip s block = e ∙ ap (clip_over s) (front_hull block some) in
    t x y ∙ ap (λ (u : Bool). u && is_in_scissor s x y) (q x y ∙ ap (λ (u : Bool). u && is_in_area s.viewport x y) (p x y))
    ∙ and_last (is_in_rect window x y) (is_in_reach s d x y) (is_in_area s.viewport x y) (is_in_scissor s x y)
    ∙ ap (λ (c : List Interval). is_in_rect window x y && (is_in_reach s c x y && (is_in_area s.viewport x y && is_in_scissor s x y))) same
    ∙ ap (λ (u : Bool). is_in_rect window x y && (u && (is_in_reach s (block_clip s block) x y && (is_in_area s.viewport x y && is_in_scissor s x y)))) (sym stands)
    ∙ sym (boxed_object s block window x y mode)

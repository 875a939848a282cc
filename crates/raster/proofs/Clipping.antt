-- Rectangles that are cut by areas.
use Rattle.std.proofs.Common.{◌≡◌, ◌∙◌, ℤ, ◌+ℤ◌, ◌≤ℤ◌, ◌<ℤ◌, int_lt, int_le, Bool, true, false, ◌&&◌, List, arith, refl, sym}
use Rattle.std.specs.Int.{int_max}
use Rattle.std.proofs.lemmas.Int.{ints}
use Rattle.rc_base.specs.Numbers.{entry}
use Rattle.rc_base.specs.Cluster.Tiles.{is_in_rect}
use Rattle.rc_base.specs.Drawing.Cover.{is_in_area, is_in_scissor}
use Rattle.rc_base.specs.declared.state.State.{State}
use Rattle.rc_base.specs.declared.window.Rect.{Rect}
use Rattle.scene_lemmas.proofs.Rectangles.{above_left, below_right, above_bottom, below_top, inside_rect}
use Rattle.raster.specs.Clips.{IsCut, IsPart, IsPartWhere, is_let_through}

low_is : (from low p : ℤ) → from ≤ℤ p → int_le low p ≡ int_le (int_max from low) p
low_is from low p h = grind (arith, ints)

most_of : (from low : ℤ) → from ≤ℤ int_max from low
most_of from low = grind (arith, ints)

pub cut_is : (from to low size last : ℤ) → last ≤ℤ to → ((p : ℤ) → from ≤ℤ p → p <ℤ to → int_lt p (low +ℤ size) ≡ int_lt p last)
    → IsCut from to low size (int_max from low) last
cut_is from to low size last below exact = record {
  left = most_of from low;
  right = below;
  exact = λ p h l i. low_is from low p h i && exact p h l i;
}

pub part_is : (r : Rect) (area : List ℤ) (x0 x1 y0 y1 : ℤ) → IsCut r.x0 r.x1 (entry area 0) (entry area 2) x0 x1
    → IsCut r.y0 r.y1 (entry area 1) (entry area 3) y0 y1
    → IsPartWhere r (record { x0 = x0; y0 = y0; x1 = x1; y1 = y1 }) (is_in_area area)
part_is r area x0 x1 y0 y1 a b = record {
  bounds = record { left = a.left; right = a.right; bottom = b.left; top = b.right };
  exact = λ x y e i. a.exact x (above_left r x y e) (below_right r x y e) i && b.exact y (above_bottom r x y e) (below_top r x y e) i;
}

-- what passes a test in a part of the rectangle
narrower : (r p q : Rect) (f g : ℤ → ℤ → Bool) (x y : ℤ) → IsPartWhere r p f → IsPartWhere p q g → is_in_rect r x y ≡ true
    → (b : Bool) → is_in_rect p x y ≡ b → (f x y && g x y) ≡ is_in_rect q x y
narrower r p q f g x y h k e true i = (λ j. (h.exact x y e ∙ i) j && k.exact x y i j)
narrower r p q f g x y h k e false i =
    (λ j. (h.exact x y e ∙ i) j && g x y) ∙ sym (outside p q x y k.bounds i)
  where
    outside : (p q : Rect) (x y : ℤ) → IsPart p q → is_in_rect p x y ≡ false → is_in_rect q x y ≡ false
    outside p q x y k i = by (is_in_rect q x y) refl
      where
        by : (b : Bool) → is_in_rect q x y ≡ b → b ≡ false
        by false u = refl
        by true u =
            let a = above_left q x y u in
            let b = below_right q x y u in
            let c = above_bottom q x y u in
            let d = below_top q x y u in
            let e = k.left in
            let f = k.right in
            let g = k.bottom in
            let h = k.top in
            sym (inside_rect p x y (omega (arith, ints)) (omega (arith, ints)) (omega (arith, ints)) (omega (arith, ints))) ∙ i

pub both_is : (s : State) (r p q : Rect) → IsPartWhere r p (is_in_area s.viewport) → IsPartWhere p q (is_in_scissor s) → IsPartWhere r q (is_let_through s)
both_is s r p q h k =
    let a = h.bounds.left in
    let b = h.bounds.right in
    let c = h.bounds.bottom in
    let d = h.bounds.top in
    let e = k.bounds.left in
    let f = k.bounds.right in
    let g = k.bounds.bottom in
    let i = k.bounds.top in
    record {
      bounds = record { left = omega (arith, ints); right = omega (arith, ints); bottom = omega (arith, ints); top = omega (arith, ints) };
      exact = λ x y o. narrower r p q (is_in_area s.viewport) (is_in_scissor s) x y h k o _ refl;
    }

-- Covered pixels stand in the part of the rectangle between the corners.
use Rattle.std.proofs.Common.{◌≡◌, ℤ, pos, ◌≤ℤ◌, ◌<ℤ◌, arith, List, refl, sym, ◌∙◌, Option, Some, None, MatchOption}
use Rattle.std.proofs.lemmas.Int.{ints, by_lt_z, int_max_is, int_min_is}
use Rattle.std.proofs.lemmas.Bool.{false_from_ne_true}
use Rattle.std.specs.Int.{int_max, int_min}
use Rattle.rc_base.specs.Drawing.Cover.{is_inside, centre, triangle_area}
use Rattle.raster.specs.Spans.{IsEmptyRow, IsRowSpan, AreEmptyRows}
use Rattle.raster.specs.Clamped.{HoldsCover, IsFull}
use Rattle.raster.specs.Between.{least, greatest}
use Rattle.raster.proofs.RowsToSpan.{between_low, between_high, between_in}
use Rattle.raster.proofs.CoverInBounds.{cover_lies_in_bounds_holds}
use Rattle.rc_base.specs.declared.window.WindowVertex.{WindowVertex}
use Rattle.rc_base.specs.declared.window.Span.{Span}
use Rattle.rc_base.specs.declared.window.Rect.{Rect}

-- the rows below the part are empty
pub rows_below_empty : (v : List WindowVertex) (rect part : Rect) (from y : ℤ) → HoldsCover v rect part → y ≡ int_max from part.y0 → AreEmptyRows v rect from y
rows_below_empty v rect part from y h e j k l x m n =
    false_from_ne_true (is_inside v x j) (λ t. let low = h.low x j m n t in absurd (omega (arith, ints, int_max_is from part.y0)))

-- so are those above it
pub rows_above_empty : (v : List WindowVertex) (rect part : Rect) (from y : ℤ) → HoldsCover v rect part → AreEmptyRows v rect from y → part.y1 ≤ℤ y → AreEmptyRows v rect from rect.y1
rows_above_empty v rect part from y h skipped e j k l =
    by_lt_z j y (λ m. skipped j k m)
    (λ m x a b. false_from_ne_true (is_inside v x j) (λ t. let high = h.high x j a b l t in absurd (omega (arith, ints))))

-- without columns there is nothing
pub no_columns : (v : List WindowVertex) (rect part : Rect) (from : ℤ) → HoldsCover v rect part → part.x1 ≤ℤ part.x0 → AreEmptyRows v rect from rect.y1
no_columns v rect part from h e j k l x m n =
    false_from_ne_true (is_inside v x j) (λ t. let c = h.columns x j m n t in let a = c.0 in let b = c.1 in absurd (omega (arith, ints)))

pub empty_part : (v : List WindowVertex) (rect part : Rect) (y : ℤ) → HoldsCover v rect part → IsEmptyRow v y part.x0 part.x1 → IsEmptyRow v y rect.x0 rect.x1
empty_part v rect part y h e x k l =
    false_from_ne_true (is_inside v x y) (λ t. let c = h.columns x y k l t in let f = e x c.0 c.1 in absurd (cc))

pub span_part : (v : List WindowVertex) (rect part : Rect) (y : ℤ) (s : Span) → HoldsCover v rect part → IsRowSpan v y part.x0 part.x1 s → IsRowSpan v y rect.x0 rect.x1 s
span_part v rect part y s h r = record {
  row = r.row;
  low = let a = h.left in let b = r.low in omega (arith, ints);
  some = r.some;
  high = let a = h.right in let b = r.high in omega (arith, ints);
  exact = λ x k l. by_lt_z x part.x0
      (λ m. false_from_ne_true (is_inside v x y) (λ t. let c = h.columns x y k l t in let d = c.0 in absurd (omega (arith, ints))) ∙ sym (between_low s.x0 s.x1 x (let b = r.low in omega (arith, ints))))
      (λ m. by_lt_z x part.x1 (λ n. r.exact x m n)
      (λ n. false_from_ne_true (is_inside v x y) (λ t. let c = h.columns x y k l t in let d = c.1 in absurd (omega (arith, ints))) ∙ sym (between_high s.x0 s.x1 x (let b = r.high in omega (arith, ints)))));
}

-- a row of a part that is covered
pub full_row : (v : List WindowVertex) (part : Rect) (y : ℤ) → IsFull v part → part.x0 <ℤ part.x1 → part.y0 ≤ℤ y → y <ℤ part.y1
    → IsRowSpan v y part.x0 part.x1 (record { y = y; x0 = part.x0; x1 = part.x1 })
full_row v part y f s h k = record {
  row = refl;
  low = omega (arith, ints);
  some = s;
  high = omega (arith, ints);
  exact = λ x m n. f x y m n h k ∙ sym (between_in part.x0 part.x1 x m n);
}

-- what holds of the part's row holds of the rectangle's
pub row_widened : (v : List WindowVertex) (rect part : Rect) (y : ℤ) (r : Option Span) → HoldsCover v rect part
    → MatchOption r (IsEmptyRow v y part.x0 part.x1) (λ s. IsRowSpan v y part.x0 part.x1 s)
    → MatchOption r (IsEmptyRow v y rect.x0 rect.x1) (λ s. IsRowSpan v y rect.x0 rect.x1 s)
row_widened v rect part y None h m = empty_part v rect part y h m
row_widened v rect part y (Some s) h m = span_part v rect part y s h m

-- the rows and columns between the corners hold the cover
pub holds_cover : (v : List WindowVertex) (rect part : Rect) (left low right high : ℤ) → pos 0 <ℤ triangle_area v
    → ((p : ℤ) → least v (λ (a : WindowVertex). a.x) ≤ℤ centre p → left ≤ℤ p)
    → ((p : ℤ) → centre p ≤ℤ greatest v (λ (a : WindowVertex). a.x) → p <ℤ right)
    → ((p : ℤ) → least v (λ (a : WindowVertex). a.y) ≤ℤ centre p → low ≤ℤ p)
    → ((p : ℤ) → centre p ≤ℤ greatest v (λ (a : WindowVertex). a.y) → p <ℤ high)
    → part.x0 ≡ int_max left rect.x0 → part.y0 ≡ low → part.x1 ≡ int_min right rect.x1 → part.y1 ≡ int_min high rect.y1
    → HoldsCover v rect part
holds_cover v rect part left low right high p a b c d e f g h = record {
  left = omega (arith, ints, int_max_is left rect.x0);
  right = omega (arith, ints, int_min_is right rect.x1);
  top = omega (arith, ints, int_min_is high rect.y1);
  columns = λ x y k l t. let w = cover_lies_in_bounds_holds v x y p t in let m = a x w.0.0 in let n = b x w.0.1 in
      (omega (arith, ints, int_max_is left rect.x0), omega (arith, ints, int_min_is right rect.x1));
  low = λ x y k l t. let w = cover_lies_in_bounds_holds v x y p t in let m = c y w.1.0 in omega (arith, ints);
  high = λ x y k m l t. let w = cover_lies_in_bounds_holds v x y p t in let m = d y w.1.1 in omega (arith, ints, int_min_is high rect.y1);
}

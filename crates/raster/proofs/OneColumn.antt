-- A triangle that stands in one column of a rectangle, and one that no row of it is left of.
use Rattle.std.proofs.Common.{◌≡◌, ℤ, ◌≤ℤ◌, ◌<ℤ◌, true, arith, int_lt, int_le, List, ◌&&◌}
use Rattle.std.proofs.lemmas.Int.{ints, int_max_is}
use Rattle.std.proofs.lemmas.Bool.{false_from_ne_true}
use Rattle.std.specs.Int.{int_max}
use Rattle.std.specs.Ordering.{int_eq}
use Rattle.rc_base.specs.Drawing.Cover.{is_inside}
use Rattle.plain_lemmas.proofs.Booleans.{same_test}
use Rattle.raster.specs.Spans.{AreEmptyRows, IsOnlyColumn, IsColumnIn}
use Rattle.raster.specs.Clamped.{HoldsCover, IsFull}
use Rattle.rc_base.specs.declared.window.WindowVertex.{WindowVertex}
use Rattle.rc_base.specs.declared.window.Rect.{Rect}
use Rattle.raster.specs.declared.column.Column.{Column}

-- where the part ends below its first row, or below row y, no row from y on has a covered pixel
pub no_rows : (v : List WindowVertex) (rect part : Rect) (y : ℤ) → HoldsCover v rect part → part.y1 ≤ℤ int_max part.y0 y → AreEmptyRows v rect y rect.y1
no_rows v rect part y h e j k l x m n =
    false_from_ne_true (is_inside v x j)
    (λ t. let low = h.low x j m n t in let high = h.high x j m n l t in absurd (omega (arith, ints, int_max_is part.y0 y)))

in_column : (x y a b c : ℤ) → x ≡ a → b ≤ℤ y → y <ℤ c → (int_eq x a && (int_le b y && int_lt y c)) ≡ true
in_column x y a b c e h k = grind (arith, ints)

from_column : (x y a b c : ℤ) → (int_eq x a && (int_le b y && int_lt y c)) ≡ true → (x ≡ a) × (b ≤ℤ y) × (y <ℤ c)
from_column x y a b c h = (grind (arith, ints), grind (arith, ints), grind (arith, ints))

-- the rows of a covered part of one column
pub only_column : (v : List WindowVertex) (rect part : Rect) (c : Column) → HoldsCover v rect part → IsFull v part → IsColumnIn rect part c → IsOnlyColumn v rect c
only_column v rect part c h full is =
    let one = is.one in let column = is.column in let low = is.low in let some = is.some in let high = is.high in
    let left = h.left in let right = h.right in let top = h.top in
    record {
      left = omega (arith, ints);
      right = omega (arith, ints);
      low = omega (arith, ints, int_max_is part.y0 rect.y0);
      order = omega (arith, ints);
      high = omega (arith, ints);
      exact = λ x y k l m n. same_test (is_inside v x y) _
          (λ t. let w = h.columns x y k l t in let w0 = w.0 in let w1 = w.1 in let a = h.low x y k l t in let b = h.high x y k l n t in
          in_column x y c.x c.y0 c.y1 (omega (arith, ints)) (omega (arith, ints, int_max_is part.y0 rect.y0)) (omega (arith, ints)))
          (λ t. let w = from_column x y c.x c.y0 c.y1 t in let w0 = w.0 in let w1 = w.1 in let w2 = w.2 in
          full x y (omega (arith, ints)) (omega (arith, ints)) (omega (arith, ints, int_max_is part.y0 rect.y0)) (omega (arith, ints)));
    }

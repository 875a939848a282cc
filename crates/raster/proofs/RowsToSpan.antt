-- Rows one after the other, up to one that has a span.
use Rattle.std.proofs.Common.{◌≡◌, ℤ, pos, ◌+ℤ◌, ◌≤ℤ◌, ◌<ℤ◌, true, false, arith, int_lt, int_le, List, sym, subst, ◌&&◌}
use Rattle.std.proofs.lemmas.Int.{ints, by_lt_z}
use Rattle.raster.specs.Spans.{IsEmptyRow, IsRowSpan, AreEmptyRows, IsNextSpan}
use Rattle.rc_base.specs.declared.window.WindowVertex.{WindowVertex}
use Rattle.rc_base.specs.declared.window.Span.{Span}
use Rattle.rc_base.specs.declared.window.Rect.{Rect}

pub between_low : (a b x : ℤ) → x <ℤ a → (int_le a x && int_lt x b) ≡ false
between_low a b x h = grind (arith, ints)

pub between_high : (a b x : ℤ) → b ≤ℤ x → (int_le a x && int_lt x b) ≡ false
between_high a b x h = grind (arith, ints)

pub between_in : (a b x : ℤ) → a ≤ℤ x → x <ℤ b → (int_le a x && int_lt x b) ≡ true
between_in a b x h k = grind (arith, ints)

-- the span of row y, where the rows before it are empty
pub next_span_is : (v : List WindowVertex) (rect : Rect) (from y : ℤ) (s : Span) → from ≤ℤ y → y <ℤ rect.y1 → AreEmptyRows v rect from y → IsRowSpan v y rect.x0 rect.x1 s → IsNextSpan v rect from s
next_span_is v rect from y s h k skipped r = record {
  from = let e = r.row in omega (arith, ints);
  below = let e = r.row in omega (arith, ints);
  skipped = subst (λ (z : ℤ). AreEmptyRows v rect from z) (sym r.row) skipped;
  span = subst (λ (z : ℤ). IsRowSpan v z rect.x0 rect.x1 s) (sym r.row) r;
}

-- one more empty row
pub empty_rows_more : (v : List WindowVertex) (rect : Rect) (from y z : ℤ) → AreEmptyRows v rect from y → IsEmptyRow v y rect.x0 rect.x1 → z ≡ y +ℤ pos 1 → AreEmptyRows v rect from z
empty_rows_more v rect from y z skipped here e j h l =
    by_lt_z j y (λ m. skipped j h m) (λ m. let q : y ≡ j = omega (arith, ints) in subst (λ (k : ℤ). IsEmptyRow v k rect.x0 rect.x1) q here)

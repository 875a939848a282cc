-- What the iterator over a triangle's spans gives, read to its end.
use Rattle.std.specs.Prelude.{◌≡◌, List, [], ◌∷◌, Option, ℤ, pos, ◌+ℤ◌}
use Rattle.std.specs.Iterator.{Drains}
use Rattle.rc_base.specs.declared.window.Rect.{Rect}
use Rattle.rc_base.specs.declared.window.Span.{Span}
use Rattle.rc_base.specs.declared.window.WindowVertex.{WindowVertex}
use Rattle.raster.specs.declared.rows.SpanIter.{SpanIter}
use Rattle.raster.specs.Spans.{AreEmptyRows, IsNextSpan, GivesSpan}

-- one call
abbrev pub span_steps : SpanIter → Option Span → SpanIter → Type 0
span_steps s r t = GivesSpan s.tri.now.v s.rect s.y r t.y × (t.tri ≡ s.tri) × (t.rect ≡ s.rect)

-- one span after the other from row y on, and after the last one only empty rows
abbrev pub AreSpansFrom : List WindowVertex → Rect → ℤ → List Span → Type 0
AreSpansFrom v rect y [] = AreEmptyRows v rect y rect.y1
AreSpansFrom v rect y (s ∷ ss) = IsNextSpan v rect y s × AreSpansFrom v rect (s.y +ℤ pos 1) ss

-- read to its end the iterator gives all spans of the rectangle, rows rising
abbrev pub GivesSpansOf : List WindowVertex → Rect → SpanIter → Type 0
GivesSpansOf v rect i = (ss : List Span) → Drains span_steps i ss → AreSpansFrom v rect rect.y0 ss

-- From each call of the iterator over spans to all of them.
use Rattle.std.proofs.Common.{◌≡◌, ℤ, pos, ◌+ℤ◌, List, [], ◌∷◌, subst, sym, ap, ◌∙◌, Bor}
use Rattle.std.specs.Iterator.{Drains}
use Rattle.rc_base.specs.declared.window.Rect.{Rect}
use Rattle.rc_base.specs.declared.window.Span.{Span}
use Rattle.rc_base.specs.declared.window.WindowVertex.{WindowVertex}
use Rattle.raster.specs.declared.rows.SpanIter.{SpanIter}
use Rattle.rc_base.specs.declared.triangle.WindowTriangle.{WindowTriangle}
use Rattle.raster.specs.Spans.{AreEmptyRows, IsNextSpan}
use Rattle.raster.specs.Runs.{span_steps, AreSpansFrom}

pub spans_from : (v : List WindowVertex) (rect : Rect) (y : ℤ) (i : SpanIter) (ss : List Span) → i.tri.now.v ≡ v → i.rect ≡ rect → i.y ≡ y
    → Drains span_steps i ss → AreSpansFrom v rect y ss
spans_from v rect y i [] e f g d =
    let h : AreEmptyRows i.tri.now.v i.rect i.y i.rect.y1 = subst (λ (t : SpanIter). AreEmptyRows t.tri.now.v t.rect t.y t.rect.y1) (sym d.1.1) d.1.2.0.0 in
    subst (λ (z : ℤ). AreEmptyRows v rect z rect.y1) g
    (subst (λ (r : Rect). AreEmptyRows v r i.y r.y1) f (subst (λ (w : List WindowVertex). AreEmptyRows w i.rect i.y i.rect.y1) e h))
spans_from v rect y i (s ∷ ss) e f g d =
    let j = d.1.1.0 in
    let st = d.1.1.1 in
    let n : IsNextSpan v rect y s =
    subst (λ (z : ℤ). IsNextSpan v rect z s) g
    (subst (λ (r : Rect). IsNextSpan v r i.y s) f (subst (λ (w : List WindowVertex). IsNextSpan w i.rect i.y s) e st.0.0)) in
    (n, spans_from v rect (s.y +ℤ pos 1) j ss (ap (λ (t : Bor WindowTriangle). t.now.v) st.1 ∙ e) (st.2 ∙ f) st.0.1 (d.0, (d.1.0, d.1.1.2, d.1.2)))

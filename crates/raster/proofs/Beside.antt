-- A triangle that lies beside a rectangle covers no pixel of it.
use Rattle.std.proofs.Common.{ℤ, pos, ◌<ℤ◌, ◌≤ℤ◌, ◌⊎◌, inl, inr, List}
use Rattle.std.proofs.lemmas.Bool.{cases_Bool}
use Rattle.rc_base.specs.Drawing.Cover.{is_inside, triangle_area, centre}
use Rattle.rc_base.specs.declared.window.Rect.{Rect}
use Rattle.rc_base.specs.declared.window.WindowVertex.{WindowVertex}
use Rattle.raster.specs.Between.{IsBetween, CoverLiesInBounds}
use Rattle.raster.specs.Spans.{AreEmptyRows}

-- no centre of a range of columns or rows lies between the corners
abbrev pub AreNotBetween : List WindowVertex → (WindowVertex → ℤ) → ℤ → ℤ → Type 0
AreNotBetween v coordinate first behind = (p : ℤ) → first ≤ℤ p → p <ℤ behind → IsBetween v coordinate (centre p) → ⊥

pub beside_empty : CoverLiesInBounds → (rect : Rect) (v : List WindowVertex) → pos 0 <ℤ triangle_area v
    → AreNotBetween v (λ (a : WindowVertex). a.x) rect.x0 rect.x1 ⊎ AreNotBetween v (λ (a : WindowVertex). a.y) rect.y0 rect.y1 → AreEmptyRows v rect rect.y0 rect.y1
beside_empty bounds rect v area beside y low high x left right =
    elim (cases_Bool (is_inside v x y)) [
      | inl t ↦
          let b = bounds v x y area t in
          absurd (elim beside [ inl h ↦ h x left right b.0 | inr h ↦ h y low high b.1 ])
      | inr f ↦ f
    ]

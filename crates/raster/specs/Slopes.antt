-- Where an edge turns in the rows from one on.
use Rattle.std.specs.Prelude.{◌≡◌, ◌^◌, List, ℤ, pos, neg_ℤ, ◌-ℤ◌, ◌*ℤ◌, ◌≤ℤ◌, ◌<ℤ◌}
use Rattle.rc_base.specs.Numbers.{Within}
use Rattle.rc_base.specs.Drawing.Cover.{edge_value, keeps_line, centre, corner}
use Rattle.rc_base.specs.declared.window.WindowVertex.{WindowVertex}
use Rattle.raster.specs.Columns.{strict_value}
use Rattle.raster.specs.declared.columns.Places.{Places}
use Rattle.raster.specs.declared.turns.Level.{Level}
use Rattle.raster.specs.declared.turns.Turns.{Turns}
use Rattle.raster.specs.declared.slopes.Slope.{Slope}
use Rattle.raster.specs.declared.slopes.Slope.TheVariants as slope
use Rattle.raster.specs.declared.slopes.Slopes.{Slopes}

-- the columns of a row, at most 2^12, and its climb above the lowest row, so that products with a slope fit
pub record IsRowInReach (up : ℤ) (c : Places) : Type 0 where
  pub climb : Within (2 ^ 37) up
  pub order : c.x0 ≤ℤ c.x1
  pub few : (c.x1 -ℤ c.x0) ≤ℤ pos (2 ^ 12)

-- the edge of value `e` at the first column and row, which gains `dx` a sixteenth up and loses `step` a column, turns where it is 0
abbrev pub AreTurns : ℤ → ℤ → ℤ → Turns → Type 0
AreTurns e dx step t = (t.first ≡ e -ℤ pos 1) × (t.gain ≡ dx) × (t.step ≡ step)

-- what an edge does in the columns from x0 on and the rows from y0 on
pub record IsSlope (a b : WindowVertex) (x0 y0 : ℤ) (s : Slope) : Type 0 where
  pub down : (t : Turns) → s ≡ slope.Left t → (b.y -ℤ a.y) <ℤ pos 0
  pub left : (t : Turns) → s ≡ slope.Left t
      → AreTurns (neg_ℤ (edge_value a b (centre x0) (centre y0))) (neg_ℤ (b.x -ℤ a.x)) (pos 16 *ℤ neg_ℤ (b.y -ℤ a.y)) t
  pub up : (t : Turns) → s ≡ slope.Right t → pos 0 <ℤ (b.y -ℤ a.y)
  pub right : (t : Turns) → s ≡ slope.Right t
      → AreTurns (edge_value a b (centre x0) (centre y0)) (b.x -ℤ a.x) (pos 16 *ℤ (b.y -ℤ a.y)) t
  pub level : (l : Level) → s ≡ slope.Level l → (b.y -ℤ a.y) ≡ pos 0
  pub flat : (l : Level) → s ≡ slope.Level l
      → (l.first ≡ strict_value (edge_value a b (centre x0) (centre y0)) (keeps_line a b)) × (l.gain ≡ b.x -ℤ a.x)

-- those of a triangle's three edges
pub record AreSlopes (v : List WindowVertex) (x0 y0 : ℤ) (s : Slopes) : Type 0 where
  pub first : IsSlope (corner v 0) (corner v 1) x0 y0 s.first
  pub second : IsSlope (corner v 1) (corner v 2) x0 y0 s.second
  pub third : IsSlope (corner v 2) (corner v 0) x0 y0 s.third

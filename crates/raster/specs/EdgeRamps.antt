-- The values of a triangle's edges at a pixel, stepped along its row.
use Rattle.std.specs.Prelude.{◌≡◌, List, ℤ, pos, neg_ℤ, ◌-ℤ◌, ◌*ℤ◌}
use Rattle.rc_base.specs.Drawing.Cover.{edge_value, keeps_line, centre, corner}
use Rattle.rc_base.specs.declared.window.WindowVertex.{WindowVertex}
use Rattle.raster.specs.Lanes.{kept_value}
use Rattle.raster.specs.declared.edge_ramp.EdgeRamp.{EdgeRamp}

-- an edge's kept value at the centre of pixel (x, y)
abbrev pub edge_at : WindowVertex → WindowVertex → ℤ → ℤ → ℤ
edge_at a b x y = kept_value (edge_value a b (centre x) (centre y)) (keeps_line a b)

-- what it gains to the next pixel of the row
abbrev pub edge_gain : WindowVertex → WindowVertex → ℤ
edge_gain a b = neg_ℤ (pos 16 *ℤ (b.y -ℤ a.y))

-- those of a triangle's three edges
pub record IsEdgeRamp (v : List WindowVertex) (x y : ℤ) (r : EdgeRamp) : Type 0 where
  pub first : r.first ≡ edge_at (corner v 0) (corner v 1) x y
  pub second : r.second ≡ edge_at (corner v 1) (corner v 2) x y
  pub third : r.third ≡ edge_at (corner v 2) (corner v 0) x y
  pub first_gain : r.first_gain ≡ edge_gain (corner v 0) (corner v 1)
  pub second_gain : r.second_gain ≡ edge_gain (corner v 1) (corner v 2)
  pub third_gain : r.third_gain ≡ edge_gain (corner v 2) (corner v 0)

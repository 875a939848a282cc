-- Eight pixels of a row at once: what an edge says of each, and which of them are covered.
use Rattle.std.specs.Prelude.{◌≡◌, ℕ, ◌<◌, ◌^◌, List, [], ◌∷◌, Bool, true, false, ℤ, pos, neg_ℤ, ◌+ℤ◌, ◌-ℤ◌, ◌*ℤ◌}
use Rattle.std.specs.Int.{bit_at}
use mathlib.Core.Bool.{cond}
use Rattle.rc_base.specs.Drawing.Cover.{edge_value, keeps_line, is_inside, centre, corner}
use Rattle.rc_base.specs.declared.window.WindowVertex.{WindowVertex}
use Rattle.raster.specs.declared.lanes.Lanes.{Lanes}

-- an edge's value, one less where the edge doesn't keep its line: the points that pass are those where it isn't below 0
abbrev pub kept_value : ℤ → Bool → ℤ
kept_value e true = e
kept_value e false = e -ℤ pos 1

-- first, first + step, .. first + 7 * step
abbrev pub ramp_of : ℤ → ℤ → List ℤ
ramp_of first step =
    (first +ℤ pos 0 *ℤ step) ∷ (first +ℤ pos 1 *ℤ step) ∷ (first +ℤ pos 2 *ℤ step) ∷ (first +ℤ pos 3 *ℤ step)
    ∷ (first +ℤ pos 4 *ℤ step) ∷ (first +ℤ pos 5 *ℤ step) ∷ (first +ℤ pos 6 *ℤ step) ∷ (first +ℤ pos 7 *ℤ step) ∷ []

-- an edge's kept values at the centres of the eight pixels from (x, y) on
abbrev pub edge_lanes : WindowVertex → WindowVertex → ℤ → ℤ → List ℤ
edge_lanes a b x y = ramp_of (kept_value (edge_value a b (centre x) (centre y)) (keeps_line a b)) (neg_ℤ (pos 16 *ℤ (b.y -ℤ a.y)))

-- those of a triangle's three edges
pub record AreLanes (v : List WindowVertex) (x y : ℤ) (l : Lanes) : Type 0 where
  pub first : l.first ≡ edge_lanes (corner v 0) (corner v 1) x y
  pub second : l.second ≡ edge_lanes (corner v 1) (corner v 2) x y
  pub third : l.third ≡ edge_lanes (corner v 2) (corner v 0) x y

-- a bit for each of the eight pixels from (x, y) on: set where it is covered
pub record AreCoveredBits (v : List WindowVertex) (x y : ℤ) (bits : ℕ) : Type 0 where
  pub eight : bits < 2 ^ 8
  pub each : (k : ℕ) → k < 8 → bit_at bits k ≡ cond (is_inside v (x +ℤ pos k) y) 1 0

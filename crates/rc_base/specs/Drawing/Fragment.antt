-- What a triangle brings to a pixel that it covers.
use Rattle.std.specs.Prelude.{ℕ, zero, suc, List, ℤ, pos, ◌+ℤ◌, ◌*ℤ◌}
use Rattle.rc_base.specs.Numbers.{floor_quotient, natural}
use Rattle.rc_base.specs.Drawing.Cover.{edge_value, corner, triangle_area, centre}
use Rattle.rc_base.specs.declared.command.Rgba.{Rgba}
use Rattle.rc_base.specs.declared.window.WindowVertex.{WindowVertex}
use Rattle.rc_base.specs.declared.window.Fragment.{Fragment}

-- how much corner k of a triangle weighs at a point: the value of the edge opposite to it. The three weights sum to the area
abbrev pub weight : List WindowVertex → ℕ → ℤ → ℤ → ℤ
weight v zero px py = edge_value (corner v 1) (corner v 2) px py
weight v (suc zero) px py = edge_value (corner v 2) (corner v 0) px py
weight v _ px py = edge_value (corner v 0) (corner v 1) px py

abbrev pub weighted_sum : ℤ → ℤ → ℤ → ℤ → ℤ → ℤ → ℤ
weighted_sum e0 e1 e2 a0 a1 a2 = e0 *ℤ a0 +ℤ e1 *ℤ a1 +ℤ e2 *ℤ a2

-- an attribute of the corners at the centre of pixel (x, y): their mean by weight, rounded down
unfoldable pub interpolated : List WindowVertex → ℤ → ℤ → (WindowVertex → ℤ) → ℤ
interpolated v x y attribute =
    floor_quotient
    (weighted_sum (weight v 0 (centre x) (centre y)) (weight v 1 (centre x) (centre y)) (weight v 2 (centre x) (centre y))
    (attribute (corner v 0)) (attribute (corner v 1)) (attribute (corner v 2)))
    (triangle_area v)

-- a colour channel at a pixel, where it is a mean of channels and so none below 0
abbrev pub channel_at : List WindowVertex → ℤ → ℤ → (Rgba → ℕ) → ℕ
channel_at v x y channel = natural (interpolated v x y (λ (a : WindowVertex). pos (channel a.color)))

-- the fragment of a triangle at a pixel
unfoldable pub fragment_of : List WindowVertex → ℤ → ℤ → Fragment
fragment_of v x y = record {
  x = x;
  y = y;
  color = record {
    r = channel_at v x y (λ (c : Rgba). c.r);
    g = channel_at v x y (λ (c : Rgba). c.g);
    b = channel_at v x y (λ (c : Rgba). c.b);
    a = channel_at v x y (λ (c : Rgba). c.a);
  };
  depth = interpolated v x y (λ (a : WindowVertex). a.z);
  s = interpolated v x y (λ (a : WindowVertex). a.s);
  t = interpolated v x y (λ (a : WindowVertex). a.t);
}

-- From the weights at a pixel to its fragment.
use Rattle.std.proofs.Common.{◌≡◌, ℕ, ◌<◌, ◌==◌, ◌&&◌, ℤ, pos, negsuc, ◌≤ℤ◌, ◌<ℤ◌, arith, List, true}
use Rattle.std.proofs.lemmas.Bool.{and_parts, eqb-true}
use Rattle.std.proofs.lemmas.Int.{ints, int_min_is, int_max_is}
use Rattle.std.specs.Int.{int_min, int_max}
use Rattle.rc_base.specs.Numbers.{Within, floor_quotient, natural}
use Rattle.rc_base.specs.Drawing.Cover.{centre, corner, triangle_area, is_inside}
use Rattle.rc_base.specs.Drawing.Fragment.{weight, weighted_sum, interpolated, channel_at, fragment_of}
use Rattle.raster.specs.Blend.{mean_color}
use Rattle.raster.specs.Colors.{has_one_color, is_depth}
use Rattle.raster.specs.Weights.{AreWeights}
use Rattle.raster.proofs.Average.{average_low, average_high, inside_weights}
use Rattle.rc_base.specs.declared.window.WindowVertex.{WindowVertex}
use Rattle.rc_base.specs.declared.command.Rgba.{Rgba}

pub mean_is : (v : List WindowVertex) (x y : ℤ) (attribute : WindowVertex → ℤ) (e0 e1 e2 area : ℤ)
    → e0 ≡ weight v 0 (centre x) (centre y) → e1 ≡ weight v 1 (centre x) (centre y) → e2 ≡ weight v 2 (centre x) (centre y) → area ≡ triangle_area v
    → floor_quotient (weighted_sum e0 e1 e2 (attribute (corner v 0)) (attribute (corner v 1)) (attribute (corner v 2))) area ≡ interpolated v x y attribute
unfolding interpolated
mean_is v x y attribute e0 e1 e2 area h0 h1 h2 k = λ i. floor_quotient (weighted_sum (h0 i) (h1 i) (h2 i) (attribute (corner v 0)) (attribute (corner v 1)) (attribute (corner v 2))) (k i)

pub color_is : (v : List WindowVertex) (x y : ℤ) (e0 e1 e2 area : ℤ)
    → e0 ≡ weight v 0 (centre x) (centre y) → e1 ≡ weight v 1 (centre x) (centre y) → e2 ≡ weight v 2 (centre x) (centre y) → area ≡ triangle_area v
    → mean_color e0 e1 e2 area (corner v 0).color (corner v 1).color (corner v 2).color
    ≡ record { r = channel_at v x y (λ (c : Rgba). c.r); g = channel_at v x y (λ (c : Rgba). c.g); b = channel_at v x y (λ (c : Rgba). c.b); a = channel_at v x y (λ (c : Rgba). c.a) }
unfolding interpolated mean_color
color_is v x y e0 e1 e2 area h0 h1 h2 k = λ i. mean_color (h0 i) (h1 i) (h2 i) (k i) (corner v 0).color (corner v 1).color (corner v 2).color

-- a mean of channels is a channel
pub channel_low : (e0 e1 e2 area : ℤ) (a b c : ℕ) → AreWeights e0 e1 e2 area → pos 0 <ℤ area → pos 0 ≤ℤ floor_quotient (weighted_sum e0 e1 e2 (pos a) (pos b) (pos c)) area
channel_low e0 e1 e2 area a b c w p =
    average_low e0 e1 e2 (pos a) (pos b) (pos c) area (pos 0) w.first w.second w.third w.total p (omega (arith, ints)) (omega (arith, ints)) (omega (arith, ints))

pub channel_high : (e0 e1 e2 area : ℤ) (a b c : ℕ) → AreWeights e0 e1 e2 area → pos 0 <ℤ area → a < 256 → b < 256 → c < 256 → floor_quotient (weighted_sum e0 e1 e2 (pos a) (pos b) (pos c)) area ≤ℤ pos 255
channel_high e0 e1 e2 area a b c w p h k l =
    average_high e0 e1 e2 (pos a) (pos b) (pos c) area (pos 255) w.first w.second w.third w.total p (omega (arith, ints)) (omega (arith, ints)) (omega (arith, ints))

pub min_within : (a b c : ℤ) (m : ℕ) → Within m a → Within m b → Within m c → Within m (int_min (int_min a b) c)
min_within a b c m h k l =
    let p = h.0 in let q = h.1 in let r = k.0 in let s = k.1 in let t = l.0 in let u = l.1 in
    (omega (arith, ints, int_min_is (int_min a b) c, int_min_is a b), omega (arith, ints, int_min_is (int_min a b) c, int_min_is a b))

pub max_within : (a b c : ℤ) (m : ℕ) → Within m a → Within m b → Within m c → Within m (int_max (int_max a b) c)
max_within a b c m h k l =
    let p = h.0 in let q = h.1 in let r = k.0 in let s = k.1 in let t = l.0 in let u = l.1 in
    (omega (arith, ints, int_max_is (int_max a b) c, int_max_is a b), omega (arith, ints, int_max_is (int_max a b) c, int_max_is a b))

between_ends : (z : ℤ) → is_depth z ≡ true → (pos 0 ≤ℤ z) × (z ≤ℤ pos 16777215)
between_ends z h = (grind (arith, ints), grind (arith, ints))

ends_between : (z : ℤ) → pos 0 ≤ℤ z → z ≤ℤ pos 16777215 → is_depth z ≡ true
ends_between z h k = grind (arith, ints)

-- depths inside the buffer's range have a mean inside it
pub depth_between : (v : List WindowVertex) (x y : ℤ) → pos 0 <ℤ triangle_area v → is_depth (corner v 0).z ≡ true
    → is_depth (corner v 1).z ≡ true → is_depth (corner v 2).z ≡ true → is_inside v x y ≡ true → is_depth (fragment_of v x y).depth ≡ true
unfolding fragment_of interpolated
depth_between v x y p h0 h1 h2 t =
    let w = inside_weights v x y t in
    let k0 = between_ends _ h0 in
    let k1 = between_ends _ h1 in
    let k2 = between_ends _ h2 in
    ends_between _ (average_low _ _ _ _ _ _ (triangle_area v) (pos 0) w.first w.second w.third w.total p k0.0 k1.0 k2.0)
    (average_high _ _ _ _ _ _ (triangle_area v) (pos 16777215) w.first w.second w.third w.total p k0.1 k1.1 k2.1)

-- a channel that the corners have in common is every fragment's
flat_channel : (v : List WindowVertex) (x y : ℤ) (channel : Rgba → ℕ) → pos 0 <ℤ triangle_area v → is_inside v x y ≡ true
    → channel (corner v 0).color ≡ channel (corner v 1).color → channel (corner v 1).color ≡ channel (corner v 2).color → channel (corner v 0).color ≡ channel_at v x y channel
unfolding interpolated
flat_channel v x y channel p t e f =
    let w = inside_weights v x y t in
    let a = channel (corner v 0).color in
    let low = average_low _ _ _ (pos a) (pos (channel (corner v 1).color)) (pos (channel (corner v 2).color)) (triangle_area v) (pos a) w.first w.second w.third w.total p
    (omega (arith, ints)) (omega (arith, ints, e)) (omega (arith, ints, e, f)) in
    let high = average_high _ _ _ (pos a) (pos (channel (corner v 1).color)) (pos (channel (corner v 2).color)) (triangle_area v) (pos a) w.first w.second w.third w.total p
    (omega (arith, ints)) (omega (arith, ints, e)) (omega (arith, ints, e, f)) in
    exactly a _ low high
  where
    exactly : (n : ℕ) (z : ℤ) → pos n ≤ℤ z → z ≤ℤ pos n → n ≡ natural z
    exactly n (pos m) h k = omega (arith, ints)
    exactly n (negsuc m) h k = absurd (omega (arith, ints))

same_of : (a b c : ℕ) → (a == b && b == c) ≡ true → (a ≡ b) × (b ≡ c)
same_of a b c h =
    let p = and_parts (a == b) (b == c) h in
    (eqb-true a b p.0, eqb-true b c p.1)

pub flat_is : (v : List WindowVertex) (x y : ℤ) → pos 0 <ℤ triangle_area v → is_inside v x y ≡ true → has_one_color v ≡ true
    → (corner v 0).color ≡ (fragment_of v x y).color
unfolding fragment_of
flat_is v x y p t h =
    let h0 = and_parts _ _ h in
    let h1 = and_parts _ _ h0.1 in
    let h2 = and_parts _ _ h1.1 in
    let r = same_of _ _ _ h0.0 in
    let g = same_of _ _ _ h1.0 in
    let b = same_of _ _ _ h2.0 in
    let a = same_of _ _ _ h2.1 in
    let er = flat_channel v x y (λ (c : Rgba). c.r) p t r.0 r.1 in
    let eg = flat_channel v x y (λ (c : Rgba). c.g) p t g.0 g.1 in
    let eb = flat_channel v x y (λ (c : Rgba). c.b) p t b.0 b.1 in
    let ea = flat_channel v x y (λ (c : Rgba). c.a) p t a.0 a.1 in
    λ i. record { r = er i; g = eg i; b = eb i; a = ea i }

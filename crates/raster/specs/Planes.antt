-- An attribute of a triangle as a plane over the pixels: its sum by weight is affine in the pixel, and its mean is kept as a number of parts.
use Rattle.std.specs.Prelude.{◌≡◌, ℕ, ◌*◌, ◌-◌, ◌^◌, ◌+◌, ◌<◌, List, ℤ, pos, neg_ℤ, ◌+ℤ◌, ◌-ℤ◌, ◌*ℤ◌, ◌≤ℤ◌, ◌<ℤ◌, true}
use Rattle.rc_base.specs.Numbers.{floor_quotient}
use Rattle.rc_base.specs.Drawing.Cover.{corner, triangle_area, centre, is_inside}
use Rattle.rc_base.specs.Drawing.Fragment.{weight, weighted_sum, interpolated}
use Rattle.rc_base.specs.declared.window.WindowVertex.{WindowVertex}
use Rattle.raster.specs.declared.byte_plane.BytePlane.{BytePlane}
use Rattle.raster.specs.declared.byte_plane.ByteRamp.{ByteRamp}
use Rattle.raster.specs.declared.word_plane.WordPlane.{WordPlane}
use Rattle.raster.specs.declared.word_plane.WordRamp.{WordRamp}
use Rattle.raster.specs.declared.edges.Edges.{Edges}
use Rattle.raster.specs.declared.triangle_setup.TriangleSetup.{TriangleSetup}

-- ---- sums by weight

-- an attribute's sum of the corners by weight at the centre of a pixel: the mean there times the area
unfoldable pub sum_at : List WindowVertex → ℤ → ℤ → (WindowVertex → ℤ) → ℤ
sum_at v x y f =
    weighted_sum (weight v 0 (centre x) (centre y)) (weight v 1 (centre x) (centre y)) (weight v 2 (centre x) (centre y))
    (f (corner v 0)) (f (corner v 1)) (f (corner v 2))

-- what the sum gains from a pixel to the next of its row, and to the one above it
abbrev pub gain_across : List WindowVertex → ℤ → ℤ → (WindowVertex → ℤ) → ℤ
gain_across v x y f = sum_at v (x +ℤ pos 1) y f -ℤ sum_at v x y f

abbrev pub gain_up : List WindowVertex → ℤ → ℤ → (WindowVertex → ℤ) → ℤ
gain_up v x y f = sum_at v x (y +ℤ pos 1) f -ℤ sum_at v x y f

-- the values of an attribute at the corners
abbrev pub AreCorners : List WindowVertex → (WindowVertex → ℤ) → ℤ → ℤ → ℤ → Type 0
AreCorners v f a b c = (f (corner v 0) ≡ a) × (f (corner v 1) ≡ b) × (f (corner v 2) ≡ c)

-- an attribute from `low` to `high` at each corner
abbrev pub IsFromTo : ℤ → ℤ → ℤ → Type 0
IsFromTo low high z = (low ≤ℤ z) × (z ≤ℤ high)

abbrev pub AreFromTo : ℤ → ℤ → List WindowVertex → (WindowVertex → ℤ) → Type 0
AreFromTo low high v f = IsFromTo low high (f (corner v 0)) × IsFromTo low high (f (corner v 1)) × IsFromTo low high (f (corner v 2))

-- ---- what all attributes of a triangle share

-- the weights at a point
pub record AreEdges (v : List WindowVertex) (px py : ℤ) (e : Edges) : Type 0 where
  pub first : e.first ≡ weight v 0 px py
  pub second : e.second ≡ weight v 1 px py
  pub third : e.third ≡ weight v 2 px py

-- the area, and the weights at a pixel's centre, at the next one's and at the one's above it
pub record IsTriangleSetup (v : List WindowVertex) (x y : ℤ) (s : TriangleSetup) : Type 0 where
  pub area : s.area ≡ triangle_area v
  pub here : AreEdges v (centre x) (centre y) s.here
  pub right : AreEdges v (centre (x +ℤ pos 1)) (centre y) s.right
  pub above : AreEdges v (centre x) (centre (y +ℤ pos 1)) s.above

-- ---- numbers of parts

-- a number modulo 2^64, and modulo 2^128
pub record IsByteResidue (whole : ℤ) (part : ℕ) : Type 0 where
  pub turns : ℤ
  pub is : whole ≡ pos part +ℤ pos (2 ^ 64) *ℤ turns

pub record IsWordResidue (whole : ℤ) (part : ℕ) : Type 0 where
  pub turns : ℤ
  pub is : whole ≡ pos part +ℤ pos (2 ^ 128) *ℤ turns

-- `part` is n / area in parts of 2^56, modulo 2^64, and too large by at most k times 2^44 parts of the area
pub record IsByteQuotient (n area : ℤ) (k part : ℕ) : Type 0 where
  pub whole : ℤ
  pub low : (pos (2 ^ 56) *ℤ n) ≤ℤ (area *ℤ whole)
  pub high : (area *ℤ whole) ≤ℤ (pos (2 ^ 56) *ℤ n +ℤ pos (2 ^ 44 * k))
  pub residue : IsByteResidue whole part

-- `part` is n / area in parts of 2^96, modulo 2^128, and too large by at most k times 2^83 parts of the area
pub record IsWordQuotient (n area : ℤ) (k part : ℕ) : Type 0 where
  pub whole : ℤ
  pub low : (pos (2 ^ 96) *ℤ n) ≤ℤ (area *ℤ whole)
  pub high : (area *ℤ whole) ≤ℤ (pos (2 ^ 96) *ℤ n +ℤ pos (2 ^ 83 * k))
  pub residue : IsWordResidue whole part

-- the floor of each quotient that `part` is, after fewer than 2^12 steps, where 32 bits hold it
abbrev pub IsWordFloor : ℕ → ℤ → Type 0
IsWordFloor part z =
    (n area : ℤ) (k : ℕ) → IsWordQuotient n area k part → k < 2 ^ 12 → pos 0 <ℤ area
    → pos 0 ≤ℤ (floor_quotient n area +ℤ pos (2 ^ 31)) → floor_quotient n area <ℤ pos (2 ^ 31) → z ≡ floor_quotient n area

-- ---- attributes of a byte

-- from pixel (x, y) on
pub record IsBytePlane (v : List WindowVertex) (x y : ℤ) (f : WindowVertex → ℤ) (p : BytePlane) : Type 0 where
  pub bytes : AreFromTo (pos 0) (pos 255) v f
  pub at : IsByteQuotient (sum_at v x y f) (triangle_area v) 1 p.at
  pub across : IsByteQuotient (gain_across v x y f) (triangle_area v) 1 p.across
  pub up : IsByteQuotient (gain_up v x y f) (triangle_area v) 1 p.up

-- at pixel (x, y), after so many steps, to be stepped along the row
pub record IsByteRamp (v : List WindowVertex) (x y : ℤ) (f : WindowVertex → ℤ) (k : ℕ) (r : ByteRamp) : Type 0 where
  pub bytes : AreFromTo (pos 0) (pos 255) v f
  pub at : IsByteQuotient (sum_at v x y f) (triangle_area v) k r.at
  pub across : IsByteQuotient (gain_across v x y f) (triangle_area v) 1 r.gain

-- the same, to be stepped up the column
pub record IsByteRise (v : List WindowVertex) (x y : ℤ) (f : WindowVertex → ℤ) (k : ℕ) (r : ByteRamp) : Type 0 where
  pub bytes : AreFromTo (pos 0) (pos 255) v f
  pub at : IsByteQuotient (sum_at v x y f) (triangle_area v) k r.at
  pub up : IsByteQuotient (gain_up v x y f) (triangle_area v) 1 r.gain

-- of each channel with these values at the corners of the setup's triangle, its plane
abbrev pub IsBytePlaneFor : TriangleSetup → ℕ → ℕ → ℕ → BytePlane → Type 0
IsBytePlaneFor s a b c p =
    (v : List WindowVertex) (x y : ℤ) (f : WindowVertex → ℤ) → IsTriangleSetup v x y s → AreCorners v f (pos a) (pos b) (pos c)
    → IsBytePlane v x y f p

-- the attribute at the pixel, which the triangle covers, after fewer than 2^12 steps along the row, and up the column
abbrev pub IsRampByte : ByteRamp → ℕ → Type 0
IsRampByte r mean =
    (v : List WindowVertex) (x y : ℤ) (f : WindowVertex → ℤ) (k : ℕ) → IsByteRamp v x y f k r → k < 2 ^ 12
    → pos 0 <ℤ triangle_area v → is_inside v x y ≡ true → pos mean ≡ interpolated v x y f

abbrev pub IsRiseByte : ByteRamp → ℕ → Type 0
IsRiseByte r mean =
    (v : List WindowVertex) (x y : ℤ) (f : WindowVertex → ℤ) (k : ℕ) → IsByteRise v x y f k r → k < 2 ^ 12
    → pos 0 <ℤ triangle_area v → is_inside v x y ≡ true → pos mean ≡ interpolated v x y f

-- ---- attributes of 32 bits

abbrev pub AreShort : List WindowVertex → (WindowVertex → ℤ) → Type 0
AreShort v f = AreFromTo (neg_ℤ (pos (2 ^ 31))) (pos (2 ^ 31 - 1)) v f

pub record IsWordPlane (v : List WindowVertex) (x y : ℤ) (f : WindowVertex → ℤ) (p : WordPlane) : Type 0 where
  pub short : AreShort v f
  pub at : IsWordQuotient (sum_at v x y f) (triangle_area v) 1 p.at
  pub across : IsWordQuotient (gain_across v x y f) (triangle_area v) 1 p.across
  pub up : IsWordQuotient (gain_up v x y f) (triangle_area v) 1 p.up

pub record IsWordRamp (v : List WindowVertex) (x y : ℤ) (f : WindowVertex → ℤ) (k : ℕ) (r : WordRamp) : Type 0 where
  pub short : AreShort v f
  pub at : IsWordQuotient (sum_at v x y f) (triangle_area v) k r.at
  pub across : IsWordQuotient (gain_across v x y f) (triangle_area v) 1 r.across

-- of each attribute with these values at the corners of the setup's triangle, its plane
abbrev pub IsWordPlaneOf : TriangleSetup → ℤ → ℤ → ℤ → WordPlane → Type 0
IsWordPlaneOf s a b c p =
    (v : List WindowVertex) (x y : ℤ) (f : WindowVertex → ℤ) → IsTriangleSetup v x y s → AreCorners v f a b c → IsWordPlane v x y f p

-- a triangle's attribute from the setup's pixel on
abbrev pub IsWordPlaneFrom : List WindowVertex → TriangleSetup → (WindowVertex → ℤ) → WordPlane → Type 0
IsWordPlaneFrom v s f p = (x y : ℤ) → IsTriangleSetup v x y s → IsWordPlane v x y f p

-- the attribute at the pixel, which the triangle covers, after fewer than 2^12 steps
abbrev pub IsRampWord : WordRamp → ℤ → Type 0
IsRampWord r mean =
    (v : List WindowVertex) (x y : ℤ) (f : WindowVertex → ℤ) (k : ℕ) → IsWordRamp v x y f k r → k < 2 ^ 12
    → pos 0 <ℤ triangle_area v → is_inside v x y ≡ true → mean ≡ interpolated v x y f

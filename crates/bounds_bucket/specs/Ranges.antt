-- Ranges of whole numbers, and rectangles made of them.
use Rattle.std.specs.Prelude.{◌≡◌, Bool, ◌&&◌, ℤ, ◌+ℤ◌, ◌<ℤ◌, int_le, int_lt}
use Rattle.rc_base.specs.Cluster.Tiles.{is_in_rect}
use Rattle.rc_base.specs.declared.window.Rect.{Rect}
use Rattle.bounds_bucket.specs.declared.range.Range.{Range}

-- the number lies in the range
abbrev pub is_among : Range → ℤ → Bool
is_among r p = int_le r.from p && int_lt p r.end

-- the numbers of a range that lie from `low` to below `low + size`
abbrev pub IsCut : Range → ℤ → ℤ → Range → Type 0
IsCut r low size part = (p : ℤ) → is_among part p ≡ (is_among r p && (int_le low p && int_lt p (low +ℤ size)))

-- the part has exactly the pixels of the rectangle that pass a test
abbrev pub IsPartWhere : Rect → (ℤ → ℤ → Bool) → Rect → Type 0
IsPartWhere r test part = (x y : ℤ) → is_in_rect part x y ≡ (is_in_rect r x y && test x y)

-- the rectangle has a pixel
pub record HasPixels (r : Rect) : Type 0 where
  pub across : r.x0 <ℤ r.x1
  pub up : r.y0 <ℤ r.y1

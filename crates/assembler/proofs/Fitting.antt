-- Where the parts of a side begin, and which tile has a pixel.
use Rattle.std.proofs.Common.{◌≡◌, ℕ, zero, suc, ◌+◌, ◌*◌, ◌<◌, ◌≤◌, true, inl, inr, refl, subst, arith}
use Rattle.std.proofs.Math.Nat.{div-le_self, div-mul-le_self, mul-le-mul_left, mul-div_cancel_left, zero-mul}
use Rattle.std.proofs.lemmas.Bool.{cases_lt}
use Rattle.std.proofs.lemmas.Nat.{mod-mul-add, div-mul-add}
use Rattle.rc_base.specs.Cluster.Tiles.{boundary_of, tile_column, tile_count, tile_pixels, tile_row}
use Rattle.rc_base.specs.declared.window.Layout.{Layout}
use Rattle.scene_lemmas.proofs.Boundaries.{in_interval, LiesIn}

pub first_boundary : (side parts : ℕ) → boundary_of side parts 0 ≡ 0
first_boundary side parts = omega (arith, div-le_self (0 * side) parts, zero-mul side)

pub last_boundary : (side parts : ℕ) → 0 < parts → boundary_of side parts parts ≡ side
last_boundary side parts some = mul-div_cancel_left side some

-- ---- tiles by their columns and rows

pub column_is : (l : Layout) (row column : ℕ) → column < l.columns → tile_column l (row * l.columns + column) ≡ column
column_is l row column low = mod-mul-add row l.columns column low

pub row_is : (l : Layout) (row column : ℕ) → column < l.columns → tile_row l (row * l.columns + column) ≡ row
row_is l row column low = div-mul-add row l.columns column low

pub tile_below : (l : Layout) (row column : ℕ) → column < l.columns → row < l.rows → row * l.columns + column < tile_count l
tile_below l row column low few =
    let more : l.columns * (row + 1) ≤ l.columns * l.rows = mul-le-mul_left l.columns (omega (arith, few)) in
    omega (arith, more, low)

pub row_below_rows : (l : Layout) (tile : ℕ) → 0 < l.columns → tile < tile_count l → tile_row l tile < l.rows
row_below_rows l tile some low = elim (cases_lt (tile_row l tile) l.rows) [
  | inl less ↦ less
  | inr more ↦ absurd (
      let most : l.columns * l.rows ≤ l.columns * tile_row l tile = mul-le-mul_left l.columns more in
      let part : tile_row l tile * l.columns ≤ tile = div-mul-le_self tile l.columns in
      omega (arith, most, part, low))
]

-- a tile has the pixels of its column and its row
pub tile_has : (l : Layout) (tile row column x y : ℕ) → tile_column l tile ≡ column → tile_row l tile ≡ row
    → boundary_of l.width l.columns column ≤ x → x < boundary_of l.width l.columns (column + 1)
    → boundary_of l.height l.rows row ≤ y → y < boundary_of l.height l.rows (row + 1) → tile_pixels l tile x y ≡ true
unfolding tile_pixels
tile_has l tile row column x y c r a b d e =
    rw (c, r, in_interval l.width l.columns column x a b, in_interval l.height l.rows row y d e) refl

-- the part of a side that has a place
part_with : (side parts p n : ℕ) → p < boundary_of side parts n → (j : ℕ) × (j < n) × LiesIn side parts j p
part_with side parts p zero below = absurd (let z = first_boundary side parts in omega (arith, below, z))
part_with side parts p (suc n) below = elim (cases_lt p (boundary_of side parts n)) [
  | inl less ↦ let found = part_with side parts p n less in (found.0, omega (arith, found.1), found.2)
  | inr more ↦
      let e : suc n ≡ n + 1 = omega arith in
      (n, omega arith, record { low = more; high = subst (λ (m : ℕ). p < boundary_of side parts m) e below })
]

-- each pixel of the window has its tile
pub tile_with : (l : Layout) (x y : ℕ) → 0 < l.columns → 0 < l.rows → x < l.width → y < l.height → (tile : ℕ) × (tile < tile_count l) × (tile_pixels l tile x y ≡ true)
tile_with l x y columns rows in_width in_height =
    let across = part_with l.width l.columns x l.columns (let e = last_boundary l.width l.columns columns in omega (arith, e, in_width)) in
    let up = part_with l.height l.rows y l.rows (let e = last_boundary l.height l.rows rows in omega (arith, e, in_height)) in
    let tile = up.0 * l.columns + across.0 in (
      tile,
      tile_below l up.0 across.0 across.1 up.1,
      tile_has l tile up.0 across.0 x y (column_is l up.0 across.0 across.1) (row_is l up.0 across.0 across.1) across.2.low across.2.high up.2.low up.2.high,
    )

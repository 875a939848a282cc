-- A side that is cut into parts: each place of it lies in one part alone.
use Rattle.std.proofs.Common.{◌≡◌, ℕ, zero, suc, ◌+◌, ◌*◌, ◌/◌, ◌%◌, ◌<◌, ◌≤◌, true, refl, sym, subst, ◌∙◌, arith, inl, inr}
use Rattle.std.proofs.Math.Nat.{div-le_self, mul-le-mul_left, mul-div_cancel_left, zero-mul, div-add-mod}
use Rattle.std.proofs.lemmas.Nat.{mod-mul-add, div-mul-add}
use Rattle.std.proofs.lemmas.Bool.{cases_lt}
use Rattle.rc_base.specs.Cluster.Tiles.{boundary_of, tile_pixels, tile_column, tile_row}
use Rattle.rc_base.specs.declared.window.Layout.{Layout}
use Rattle.scene_lemmas.proofs.Boundaries.{in_interval, one_part, LiesIn, has_place}
use Rattle.bounds_bucket.specs.Tiles.{HasPixel}

-- the last of some rising places that isn't above x
pub last_below : (f : ℕ → ℕ) (x n : ℕ) → f 0 ≤ x → x < f n → (j : ℕ) × (j < n) × (f j ≤ x) × (x < f (j + 1))
last_below f x zero low high = absurd (omega (arith, low, high))
last_below f x (suc n) low high =
    elim (cases_lt x (f n)) [
      | inl below ↦
          let found = last_below f x n low below in
          (found.0, omega (arith, found.1), found.2, found.3)
      | inr above ↦
          let e : n + 1 ≡ suc n = omega arith in
          (n, omega arith, above, subst (λ (m : ℕ). x < f m) (sym e) high)
    ]

-- the part that has a place
pub some_part : (side parts p : ℕ) → 0 < parts → p < side → (j : ℕ) × (j < parts) × LiesIn side parts j p
some_part side parts p some below =
    let start : boundary_of side parts 0 ≤ p = omega (arith, div-le_self (0 * side) parts, zero-mul side) in
    let whole : p < boundary_of side parts parts = rw (mul-div_cancel_left side some) below in
    let found = last_below (boundary_of side parts) p parts start whole in
    (found.0, found.1, record { low = found.2; high = found.3 })

-- a tile has the pixels of its column and its row
pub tile_has : (l : Layout) (tile x y : ℕ) → LiesIn l.width l.columns (tile_column l tile) x → LiesIn l.height l.rows (tile_row l tile) y → tile_pixels l tile x y ≡ true
unfolding tile_pixels
tile_has l tile x y a b = rw (in_interval _ _ _ _ a.low a.high, in_interval _ _ _ _ b.low b.high) refl

pub column_bounds : (l : Layout) (tile x y : ℕ) → tile_pixels l tile x y ≡ true → LiesIn l.width l.columns (tile_column l tile) x
column_bounds l tile x y h = (has_place l tile x y h).across

pub row_bounds : (l : Layout) (tile x y : ℕ) → tile_pixels l tile x y ≡ true → LiesIn l.height l.rows (tile_row l tile) y
row_bounds l tile x y h = (has_place l tile x y h).up

pub each_pixel : (l : Layout) (x y : ℕ) → 0 < l.columns → 0 < l.rows → x < l.width → y < l.height
    → (tile : ℕ) × HasPixel l tile x y × ((other : ℕ) → HasPixel l other x y → other ≡ tile)
each_pixel l x y columns rows wide high =
    let column = some_part l.width l.columns x columns wide in
    let row = some_part l.height l.rows y rows high in
    let tile = row.0 * l.columns + column.0 in
    let c : tile % l.columns ≡ column.0 = mod-mul-add row.0 l.columns column.0 column.1 in
    let r : tile / l.columns ≡ row.0 = div-mul-add row.0 l.columns column.0 column.1 in
    let more : l.columns * (row.0 + 1) ≤ l.columns * l.rows = mul-le-mul_left l.columns (omega (arith, row.1)) in
    let few : tile < l.columns * l.rows = omega (arith, more, column.1) in (
      tile,
      (few, tile_has l tile x y (subst (λ (j : ℕ). LiesIn l.width l.columns j x) (sym c) column.2) (subst (λ (j : ℕ). LiesIn l.height l.rows j y) (sym r) row.2)),
      λ other has.
          let a : other % l.columns ≡ column.0 = one_part l.width l.columns (other % l.columns) column.0 x columns (column_bounds l other x y has.1) column.2 in
          let b : other / l.columns ≡ row.0 = one_part l.height l.rows (other / l.columns) row.0 y rows (row_bounds l other x y has.1) row.2 in
          sym (div-add-mod other l.columns) ∙ rw (a, b) (omega arith),
    )

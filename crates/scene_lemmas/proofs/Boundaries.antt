-- A side that is cut into parts, and the part of a place; the part of the window that is a tile.
use Rattle.std.proofs.Common.{ℕ, ◌*◌, ◌/◌, ◌<◌, ◌≤◌, arith, ◌+◌, subst, ◌≡◌, true, refl, le-leb, lt-ltb, leb-true, ltb-true, inl, inr}
use Rattle.std.proofs.Math.Nat.{div-mul-le_self, mul-le-mul_left, mul-div_cancel_left}
use Rattle.std.proofs.lemmas.Bool.{and_parts, cases_lt}
use Rattle.std.proofs.lemmas.Nat.{le-div}
use Rattle.std.specs.Prelude.{nat_le, nat_lt}
use Rattle.rc_base.specs.Cluster.Tiles.{boundary_of, is_in_interval, tile_column, tile_row, tile_pixels}
use Rattle.rc_base.specs.declared.window.Layout.{Layout}

pub boundary_rises : (side parts i j : ℕ) → 0 < parts → i ≤ j → boundary_of side parts i ≤ boundary_of side parts j
boundary_rises side parts i j some le =
    let whole : i * side / parts * parts ≤ i * side = div-mul-le_self (i * side) parts in
    let more : side * i ≤ side * j = mul-le-mul_left side le in
    le-div (i * side / parts) (j * side) parts some (omega (arith, whole, more))

pub boundary_most : (side parts j : ℕ) → j < parts → boundary_of side parts (j + 1) ≤ side
boundary_most side parts j low =
    let some : 0 < parts = omega arith in
    let rises = boundary_rises side parts (j + 1) parts some (omega arith) in
    subst (λ (n : ℕ). boundary_of side parts (j + 1) ≤ n) (mul-div_cancel_left side some) rises

pub record LiesIn (side parts j p : ℕ) : Type 0 where
  pub low : boundary_of side parts j ≤ p
  pub high : p < boundary_of side parts (j + 1)

pub in_interval : (side parts j p : ℕ) → boundary_of side parts j ≤ p → p < boundary_of side parts (j + 1) → is_in_interval side parts j p ≡ true
in_interval side parts j p low high = rw (le-leb _ _ low, lt-ltb _ _ high) refl

pub interval_bounds : (side parts j p : ℕ) → is_in_interval side parts j p ≡ true → LiesIn side parts j p
interval_bounds side parts j p h =
    let tests = and_parts (nat_le (boundary_of side parts j) p) (nat_lt p (boundary_of side parts (j + 1))) h in
    record { low = leb-true (boundary_of side parts j) p tests.0; high = ltb-true p (boundary_of side parts (j + 1)) tests.1 }

-- two parts that have one place are one
pub one_part : (side parts i j p : ℕ) → 0 < parts → LiesIn side parts i p → LiesIn side parts j p → i ≡ j
one_part side parts i j p some a b =
    elim (cases_lt i j) [
      | inl less ↦ absurd (let r : boundary_of side parts (i + 1) ≤ boundary_of side parts j = boundary_rises side parts (i + 1) j some (omega (arith, less)) in omega (arith, r, a.high, b.low))
      | inr more ↦ elim (cases_lt j i) [
        | inl less ↦ absurd (let r : boundary_of side parts (j + 1) ≤ boundary_of side parts i = boundary_rises side parts (j + 1) i some (omega (arith, less)) in omega (arith, r, b.high, a.low))
        | inr same ↦ omega (arith, more, same)
      ]
    ]

-- a tile has a place of the window
pub record HasPlace (l : Layout) (tile x y : ℕ) : Type 0 where
  pub across : LiesIn l.width l.columns (tile_column l tile) x
  pub up : LiesIn l.height l.rows (tile_row l tile) y

pub has_place : (l : Layout) (tile x y : ℕ) → tile_pixels l tile x y ≡ true → HasPlace l tile x y
unfolding tile_pixels
has_place l tile x y h =
    let tests = and_parts (is_in_interval l.width l.columns (tile_column l tile) x) (is_in_interval l.height l.rows (tile_row l tile) y) h in
    record { across = interval_bounds _ _ _ _ tests.0; up = interval_bounds _ _ _ _ tests.1 }

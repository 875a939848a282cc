-- A box that has a pixel of a tile meets it.
use Rattle.std.proofs.Common.{◌≡◌, ℕ, ◌+◌, ◌-◌, ◌<◌, Bool, true, ℤ, pos, ap, ◌∙◌, arith}
use Rattle.std.specs.List.{list_any, range_with_len}
use Rattle.std.proofs.lemmas.List.Folds.{list_any_at}
use Rattle.std.proofs.lemmas.List.FromFn.{get_or-range_with_len, length-range_with_len}
use Rattle.rc_base.specs.Cluster.Tiles.{boundary_of, interval_of, tile_pixels, tile_column, tile_row, some_pixel, is_in_box, meets_tile}
use Rattle.rc_base.specs.declared.state.Effect.{Effect}
use Rattle.rc_base.specs.declared.state.State.{State}
use Rattle.rc_base.specs.declared.window.Layout.{Layout}
use Rattle.scene_lemmas.proofs.Boundaries.{LiesIn}
use Rattle.bounds_bucket.proofs.OneTile.{column_bounds, row_bounds}

-- a number of an interval that passes a test
some_of : (test : ℕ → Bool) (side parts j k : ℕ) → LiesIn side parts j k → test k ≡ true → list_any test (interval_of side parts j) ≡ true
some_of test side parts j k inside passes =
    let low = boundary_of side parts j in
    let size = boundary_of side parts (j + 1) - low in
    let within : k - low < size = omega (arith, inside.low, inside.high) in
    let here : low + (k - low) ≡ k = omega (arith, inside.low) in
    list_any_at test (range_with_len low size) (k - low) 0 (omega (arith, within, length-range_with_len low size))
    (ap test (get_or-range_with_len low size (k - low) 0 within ∙ here) ∙ passes)

pub some_pixel_of : (l : Layout) (tile x y : ℕ) (passes : ℤ → ℤ → Bool) → tile_pixels l tile x y ≡ true → passes (pos x) (pos y) ≡ true → some_pixel l tile passes ≡ true
some_pixel_of l tile x y passes inside here =
    some_of (λ j. list_any (λ i. passes (pos i) (pos j)) (interval_of l.width l.columns (tile_column l tile))) l.height l.rows (tile_row l tile) y (row_bounds l tile x y inside)
    (some_of (λ i. passes (pos i) (pos y)) l.width l.columns (tile_column l tile) x (column_bounds l tile x y inside) here)

pub box_meets : (l : Layout) (s : State) (effect : Effect) (tile x y : ℕ) → tile_pixels l tile x y ≡ true → is_in_box s effect (pos x) (pos y) ≡ true → meets_tile l s effect tile ≡ true
unfolding meets_tile
box_meets l s effect tile x y inside here = some_pixel_of l tile x y (is_in_box s effect) inside here

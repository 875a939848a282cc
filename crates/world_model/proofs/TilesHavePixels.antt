-- A layout within the limits has no more columns than its window is wide, and no more rows than it is high; so each of its tiles has pixels.
use Rattle.std.proofs.Common.{◌≡◌, ℕ, ◌+◌, ◌*◌, ◌/◌, ◌<◌, ◌≤◌, [], ◌∷◌, None, arith}
use Rattle.std.proofs.Math.Nat.{div-mul-le_self, mul-pos}
use Rattle.std.proofs.lemmas.Nat.{le-div}
use Rattle.std.specs.Prelude.{min}
use Rattle.rc_base.specs.Cluster.Tiles.{tile_count, tile_column, tile_row}
use Rattle.rc_base.specs.Formats.Limits.{quantity, layout_limit}
use Rattle.rc_base.proofs.WithinLimits.{first_within, in_range}
use Rattle.assembler.specs.Parts.{part_size}
use Rattle.rc_base.specs.Formats.Within.{IsLayoutFor}
use Rattle.rc_base.specs.declared.scene.Scene.{Scene}
use Rattle.rc_base.specs.declared.window.Layout.{Layout}
use Rattle.world_model.specs.ThreadedLaws.{LayoutsHavePixels}

-- a side that is cut into no more parts than it is long has a pixel in each
some_part : (side parts j : ℕ) → 0 < parts → parts ≤ side → 0 < part_size side parts j
some_part side parts j pos le =
    let whole : j * side / parts * parts ≤ j * side = div-mul-le_self (j * side) parts in
    let next : j * side / parts + 1 ≤ (j + 1) * side / parts = le-div (j * side / parts + 1) ((j + 1) * side) parts pos (omega (arith, whole, le)) in
    omega (arith, next)

sides_within : (width height columns rows depth : ℕ) → layout_limit width height columns rows depth ≡ None
    → ((1 ≤ columns) × (columns ≤ min 8 width)) × ((1 ≤ rows) × (rows ≤ min 8 height))
unfolding layout_limit
sides_within width height columns rows depth within =
    let first = first_within (quantity 14 columns 1 (min 8 width)) (quantity 15 rows 1 (min 8 height) ∷ quantity 16 (columns * rows) 1 32 ∷ quantity 17 depth 1 16 ∷ []) within in
    let second = first_within (quantity 15 rows 1 (min 8 height)) (quantity 16 (columns * rows) 1 32 ∷ quantity 17 depth 1 16 ∷ []) first.1 in
    (in_range 14 columns 1 (min 8 width) first.0, in_range 15 rows 1 (min 8 height) second.0)

pub have_pixels : LayoutsHavePixels
have_pixels scene l depth fits tile lt =
    let s = sides_within l.width l.height l.columns l.rows depth fits.limits in
    let c = s.0.0 in
    let w = s.0.1 in
    let r = s.1.0 in
    let h = s.1.1 in
    mul-pos (some_part l.width l.columns (tile_column l tile) (omega (arith, c)) (omega (arith, w))) (some_part l.height l.rows (tile_row l tile) (omega (arith, r)) (omega (arith, h)))

pub have_tiles : (scene : Scene) (l : Layout) (depth : ℕ) → IsLayoutFor scene l depth → 0 < tile_count l
have_tiles scene l depth fits =
    let s = sides_within l.width l.height l.columns l.rows depth fits.limits in
    let c = s.0.0 in
    let r = s.1.0 in
    mul-pos (omega (arith, c)) (omega (arith, r))

-- Frames have as many parts of a tile as they are.
use Rattle.std.proofs.Common.{◌≡◌, ℕ, zero, suc, ◌<◌, List, [], ◌∷◌, length, Some, None, refl, arith, length-append}
use Rattle.std.specs.Prelude.{option_to_list, slice_get}
use Rattle.std.specs.List.{AllByRecursion}
use Rattle.std.specs.declared.option.Option.{Option}
use Rattle.rc_base.specs.Cluster.Tiles.{tile_count}
use Rattle.rc_base.specs.declared.cluster.TilePart.{TilePart}
use Rattle.rc_base.specs.declared.window.Layout.{Layout}
use Rattle.assembler.specs.Parts.{ArePartsOf}
use Rattle.frame_out.specs.OnTheWay.{parts_in}

one_of : (o : Option TilePart) (p : TilePart) → o ≡ Some p → length (option_to_list o) ≡ 1
one_of (Some q) p e = refl
one_of None p e = absurd cc

pub part_of : (l : Layout) (parts : List TilePart) (tile : ℕ) → ArePartsOf l parts → tile < tile_count l → (p : TilePart) × (slice_get parts tile ≡ Some p)
part_of l parts tile are low = go parts tile (let n = are.count in omega (arith, n, low))
  where
    go : (xs : List TilePart) (i : ℕ) → i < length xs → (p : TilePart) × (slice_get xs i ≡ Some p)
    go [] i lt = absurd (omega (arith, lt))
    go (x ∷ xs) zero lt = (x, refl)
    go (x ∷ xs) (suc i) lt = go xs i (omega (arith, lt))

pub counted : (l : Layout) (tile : ℕ) → tile < tile_count l → (frames : List (List TilePart)) → AllByRecursion (ArePartsOf l) frames → length (parts_in frames tile) ≡ length frames
counted l tile low [] all = refl
counted l tile low (parts ∷ frames) all =
    let x = part_of l parts tile all.0 low in
    let a = one_of (slice_get parts tile) x.0 x.1 in
    let b = length-append (option_to_list (slice_get parts tile)) (parts_in frames tile) in
    let c = counted l tile low frames all.1 in
    omega (arith, a, b, c)

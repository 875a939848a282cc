use Rattle.std.proofs.Common.{arith, to_z-of_z, ◌^◌, ◌+◌, ◌+ℤ◌, pos, w32}
use Rattle.std.proofs.lemmas.Int.{ints}
use Rattle.fixed_math.proofs.Signed.{product_within, fits_to_within}
use Rattle.geometry.proofs.vertex.unit_scaled.Goals as goal

pub returns-clause-small : goal.returns-clause-small
returns-clause-small c =
    let h = c.ranges.x in
    let t = product_within (c.args.x +ℤ pos 65536) c.args.size (2 ^ 31 + 2 ^ 16) (2 ^ 31) (omega (arith, ints), omega (arith, ints)) (fits_to_within w32 c.args.size c.ranges.size) in
    search (arith, ints, to_z-of_z, c.from.ensures, t)

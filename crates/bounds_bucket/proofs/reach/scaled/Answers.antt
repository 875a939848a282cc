use Rattle.std.proofs.Common.{arith, to_z-of_z, ◌^◌, ◌*ℤ◌, pos, w32}
use Rattle.std.proofs.lemmas.Int.{ints}
use Rattle.fixed_math.proofs.Signed.{product_within, fits_to_within}
use Rattle.bounds_bucket.proofs.reach.scaled.Goals as goal

pub returns-clause-small : goal.returns-clause-small
returns-clause-small c =
    let t = product_within c.args.sum c.args.size (2 ^ 66) (2 ^ 31) c.requires (fits_to_within w32 c.args.size c.ranges.size) in
    let u = product_within (c.args.sum *ℤ c.args.size) (pos 16) (2 ^ 97) 16 t (omega (arith, ints), omega (arith, ints)) in
    search (arith, ints, to_z-of_z, c.from.ensures, t, u)

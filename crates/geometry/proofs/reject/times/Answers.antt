use Rattle.std.proofs.Common.{arith, to_z-of_z, ◌^◌, w32}
use Rattle.std.proofs.lemmas.Int.{ints}
use Rattle.fixed_math.proofs.Signed.{fits_to_within, product_within}
use Rattle.geometry.proofs.reject.times.Goals as goal

pub returns : goal.returns
returns c =
    let t = product_within c.args.bound c.args.w (2 ^ 31) (2 ^ 31) c.requires (fits_to_within w32 c.args.w c.ranges.w) in
    search (arith, ints, to_z-of_z, c.from.ensures, t)

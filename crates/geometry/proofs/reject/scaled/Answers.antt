use Rattle.std.proofs.Common.{arith, to_z-of_z, ◌^◌, w32}
use Rattle.std.proofs.lemmas.Int.{ints}
use Rattle.fixed_math.proofs.Signed.{fits_to_within, product_within}
use Rattle.geometry.proofs.reject.scaled.Goals as goal

pub returns : goal.returns
returns c =
    let b = c.args.bounds.now in
    let t = product_within c.args.x b.scale (2 ^ 31) (2 ^ 20) (fits_to_within w32 c.args.x c.ranges.x) b.scale_small in
    search (arith, ints, to_z-of_z, c.from.ensures, t)

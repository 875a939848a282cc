use Rattle.std.proofs.Common.{arith, to_z-of_z, ◌^◌, w32}
use Rattle.std.proofs.lemmas.Int.{ints}
use Rattle.rc_base.specs.Numbers.{Within}
use Rattle.fixed_math.proofs.Signed.{product_within, fits_to_within}
use Rattle.raster.proofs.edges.times.Goals as goal

pub returns-clause-small : goal.returns-clause-small
returns-clause-small c =
    let w : Within (2 ^ 31) c.args.a = fits_to_within w32 c.args.a c.ranges.a in
    let t = product_within c.args.e c.args.a (2 ^ 60) (2 ^ 31) c.requires w in
    search (arith, ints, to_z-of_z, t)

use Rattle.std.proofs.Common.{arith, to_z-of_z, ◌^◌}
use Rattle.std.proofs.lemmas.Int.{ints}
use Rattle.fixed_math.proofs.Signed.{product_within}
use Rattle.raster.proofs.rise.product.Goals as goal

pub returns-clause-value : goal.returns-clause-value
returns-clause-value c =
    let t = product_within c.args.a c.args.b (2 ^ 21) (2 ^ 37) c.requires.left c.requires.right in
    search (arith, ints, to_z-of_z, t)

pub returns-clause-small : goal.returns-clause-small
returns-clause-small c =
    let t = product_within c.args.a c.args.b (2 ^ 21) (2 ^ 37) c.requires.left c.requires.right in
    search (arith, ints, to_z-of_z, t)

use Rattle.std.proofs.Common.{arith, to_z-of_z, ◌^◌}
use Rattle.std.proofs.lemmas.Int.{ints}
use Rattle.fixed_math.proofs.Signed.{product_within}
use Rattle.geometry.proofs.clipping.product.Goals as goal

pub returns-clause-small : goal.returns-clause-small
returns-clause-small c =
    let t = product_within c.args.a c.args.b (2 ^ 47) (2 ^ 47) c.requires.left c.requires.right in
    search (arith, ints, to_z-of_z, c.from.ensures, c.from-2.ensures, t)

use Rattle.std.proofs.Common.{arith, to_z-of_z, ◌^◌}
use Rattle.std.proofs.lemmas.Int.{ints}
use Rattle.fixed_math.proofs.Signed.{product_within}
use Rattle.geometry.proofs.vertex.weighed.Goals as goal

pub returns-clause-small : goal.returns-clause-small
returns-clause-small c =
    let t = product_within c.args.ends c.args.z (2 ^ 32) (2 ^ 65) c.requires.ends c.requires.z in
    search (arith, ints, to_z-of_z, c.from.ensures, t)

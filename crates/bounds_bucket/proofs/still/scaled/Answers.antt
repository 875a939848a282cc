use Rattle.std.proofs.Common.{arith, to_z-of_z, ◌^◌}
use Rattle.std.proofs.lemmas.Int.{ints}
use Rattle.fixed_math.proofs.Signed.{product_within}
use Rattle.bounds_bucket.proofs.still.scaled.Goals as goal

pub returns-clause-value : goal.returns-clause-value
returns-clause-value c =
    let t = product_within c.args.sum c.args.size (2 ^ 32) (2 ^ 16) c.requires.sum c.requires.size in
    search (arith, ints, to_z-of_z, c.from.ensures, t)

pub returns-clause-small : goal.returns-clause-small
returns-clause-small c =
    let t = product_within c.args.sum c.args.size (2 ^ 32) (2 ^ 16) c.requires.sum c.requires.size in
    search (arith, ints, to_z-of_z, c.from.ensures, t)

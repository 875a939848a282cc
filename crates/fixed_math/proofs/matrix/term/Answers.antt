use Rattle.std.proofs.Common.{arith, to_z-of_z, ◌^◌, w32}
use Rattle.fixed_math.proofs.Signed.{product_within, fits_to_within, term_within}
use Rattle.std.proofs.lemmas.Int.{ints}
use Rattle.fixed_math.proofs.matrix.term.Goals as goal

pub returns-clause-fits : goal.returns-clause-fits
returns-clause-fits c =
    let t = term_within c.args.a c.args.b c.ranges.a c.requires in
    search (arith, ints, to_z-of_z, c.from.ensures, t)

pub returns-clause-small : goal.returns-clause-small
returns-clause-small c = λ n h.
    let t = product_within c.args.a c.args.b (2 ^ 31) n (fits_to_within w32 c.args.a c.ranges.a) h in
    let u = term_within c.args.a c.args.b c.ranges.a c.requires in
    search (arith, ints, to_z-of_z, c.from.ensures, t)

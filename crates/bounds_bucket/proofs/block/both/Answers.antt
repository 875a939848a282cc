use Rattle.std.proofs.Common.{◌≡◌, arith, w32, to_z, of_z, to_z-of_z, FitsSigned}
use Rattle.std.proofs.lemmas.Int.{ints}
use Rattle.bounds_bucket.proofs.EndsOfCorners.{are_both}
use Rattle.bounds_bucket.proofs.block.both.Goals as goal

pub returns : goal.returns
returns c =
    let a : to_z w32 (of_z w32 c.args.a.least) ≡ c.args.a.least = omega (arith, ints) in
    let b : to_z w32 (of_z w32 c.args.b.least) ≡ c.args.b.least = omega (arith, ints) in
    let d : to_z w32 (of_z w32 c.args.a.greatest) ≡ c.args.a.greatest = omega (arith, ints) in
    let e : to_z w32 (of_z w32 c.args.b.greatest) ≡ c.args.b.greatest = omega (arith, ints) in
    let least : FitsSigned w32 c.least_of.result = record { sfits = c.least_of.type_inv } in
    let greatest : FitsSigned w32 c.greatest_of.result = record { sfits = c.greatest_of.type_inv } in
    rw (to_z-of_z least, to_z-of_z greatest)
    (are_both c.args.a c.args.b (record { least = c.least_of.result; greatest = c.greatest_of.result }) (simp (a, b) at c.least_of.ensures) (simp (d, e) at c.greatest_of.ensures))

use Rattle.std.proofs.Common.{◌≡◌, arith, w32, to_z, of_z, to_z-of_z, FitsSigned}
use Rattle.std.proofs.lemmas.Int.{ints}
use Rattle.fixed_math.proofs.Signed.{fits_low}
use Rattle.bounds_bucket.proofs.Grown.{with_three}
use Rattle.bounds_bucket.proofs.still.with_three.Goals as goal

pub returns : goal.returns
returns c =
    let l : to_z w32 (of_z w32 c.args.ends.least) ≡ c.args.ends.least = omega (arith, ints) in
    let g : to_z w32 (of_z w32 c.args.ends.greatest) ≡ c.args.ends.greatest = omega (arith, ints) in
    let x = to_z-of_z c.ranges.a in
    let y = to_z-of_z c.ranges.b in
    let z = to_z-of_z c.ranges.c in
    let within = fits_low w32 c.args.a c.ranges.a in
    let least : FitsSigned w32 c.least_of.result = record { sfits = c.least_of.type_inv } in
    let greatest : FitsSigned w32 c.greatest_of.result = record { sfits = c.greatest_of.type_inv } in
    rw (to_z-of_z least, to_z-of_z greatest)
    (with_three c.args.ends (record { least = c.least_of.result; greatest = c.greatest_of.result }) c.args.a c.args.b c.args.c within.0 within.1
    (simp (l, x, y, z) at c.least_of.ensures) (simp (g, x, y, z) at c.greatest_of.ensures))

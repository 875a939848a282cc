use Rattle.std.proofs.Common.{w32, to_z-of_z, FitsSigned}
use Rattle.bounds_bucket.proofs.EndsOfCorners.{are_ends}
use Rattle.bounds_bucket.proofs.block.ends_of.Goals as goal

pub returns : goal.returns
returns c =
    let x = to_z-of_z c.ranges.a in
    let y = to_z-of_z c.ranges.b in
    let z = to_z-of_z c.ranges.c in
    let least : FitsSigned w32 c.least_of.result = record { sfits = c.least_of.type_inv } in
    let greatest : FitsSigned w32 c.greatest_of.result = record { sfits = c.greatest_of.type_inv } in
    rw (to_z-of_z least, to_z-of_z greatest)
    (are_ends (record { least = c.least_of.result; greatest = c.greatest_of.result }) c.args.a c.args.b c.args.c (simp (x, y, z) at c.least_of.ensures) (simp (x, y, z) at c.greatest_of.ensures))

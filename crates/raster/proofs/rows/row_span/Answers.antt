use Rattle.std.proofs.Common.{rules, arith, to_z-of_z, w32, FitsSigned}
use Rattle.std.proofs.lemmas.Int.{ints}
use Rattle.raster.proofs.rows.row_span.Goals as goal

pub returns-then-places : goal.returns-then-places
returns-then-places c = rw (to_z-of_z c.ranges.y) at (c.places_in-places.ensures.none (omega (arith, ints)))

pub returns : goal.returns
returns c =
    let p : FitsSigned w32 c.places_in-places.result.x0 = search rules in
    let q : FitsSigned w32 c.places_in-places.result.x1 = search rules in
    let s = rw (to_z-of_z c.ranges.y) at (c.places_in-places.ensures.some (omega (arith, ints))) in
    rw (to_z-of_z c.ranges.y, to_z-of_z p, to_z-of_z q) s

use Rattle.std.proofs.Common.{arith, ◌^◌, to_z-of_z}
use Rattle.std.proofs.lemmas.Int.{ints}
use Rattle.fixed_math.proofs.Signed.{product_within}
use Rattle.raster.proofs.lanes.lane.Goals as goal

pub returns : goal.returns
returns c =
    let t = product_within c.args.count c.args.step 8 (2 ^ 40) c.requires.count c.requires.step in
    let l = t.0 in
    let u = t.1 in
    search (arith, ints, to_z-of_z, t)

use Rattle.std.proofs.Common.{to_z-of_z, w32, rules, FitsSigned}
use Rattle.raster.proofs.PartHoldsCover.{full_row}
use Rattle.raster.proofs.rows.full_span.Goals as goal

pub returns : goal.returns
returns c =
    let f : FitsSigned w32 c.args.part.x0 = search rules in
    let g : FitsSigned w32 c.args.part.x1 = search rules in
    rw (to_z-of_z c.ranges.y, to_z-of_z f, to_z-of_z g) (full_row c.args.tri.now.v c.args.part c.args.y c.requires.full c.requires.some c.requires.low c.requires.high)

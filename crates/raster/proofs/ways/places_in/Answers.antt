use Rattle.std.proofs.Common.{rules, to_z-of_z, w32, FitsSigned}
use Rattle.raster.proofs.ways.places_in.Goals as goal

pub narrow_places-requires-clause-lanes : goal.narrow_places-requires-clause-lanes
narrow_places-requires-clause-lanes c =
    let f : FitsSigned w32 c.args.part.x0 = search rules in
    let g : FitsSigned w32 c.args.part.y0 = search rules in
    rw (to_z-of_z f, to_z-of_z g) (c.requires.way.lanes c.in-Lanes.lanes c.in-Lanes.is)

pub returns-in-Lanes-clause-none : goal.returns-in-Lanes-clause-none
returns-in-Lanes-clause-none c h =
    let f : FitsSigned w32 c.args.part.x0 = search rules in
    let g : FitsSigned w32 c.args.part.x1 = search rules in
    rw (to_z-of_z c.ranges.y, to_z-of_z f, to_z-of_z g) at (c.narrow_places.ensures.none h)

pub returns-in-Lanes-clause-some : goal.returns-in-Lanes-clause-some
returns-in-Lanes-clause-some c h =
    let f : FitsSigned w32 c.args.part.x0 = search rules in
    let g : FitsSigned w32 c.args.part.x1 = search rules in
    rw (to_z-of_z c.ranges.y, to_z-of_z f, to_z-of_z g) at (c.narrow_places.ensures.some h)

pub returns-in-Slopes-clause-none : goal.returns-in-Slopes-clause-none
returns-in-Slopes-clause-none c h =
    let f : FitsSigned w32 c.args.part.x0 = search rules in
    let g : FitsSigned w32 c.args.part.x1 = search rules in
    rw (to_z-of_z c.ranges.y, to_z-of_z f, to_z-of_z g) at (c.sloped_places.ensures.none h)

pub returns-in-Slopes-clause-some : goal.returns-in-Slopes-clause-some
returns-in-Slopes-clause-some c h =
    let f : FitsSigned w32 c.args.part.x0 = search rules in
    let g : FitsSigned w32 c.args.part.x1 = search rules in
    rw (to_z-of_z c.ranges.y, to_z-of_z f, to_z-of_z g) at (c.sloped_places.ensures.some h)

pub returns-in-Divided-clause-none : goal.returns-in-Divided-clause-none
returns-in-Divided-clause-none c h =
    let f : FitsSigned w32 c.args.part.x0 = search rules in
    let g : FitsSigned w32 c.args.part.x1 = search rules in
    rw (to_z-of_z c.ranges.y, to_z-of_z f, to_z-of_z g) at (c.row_places.ensures.none h)

pub returns-in-Divided-clause-some : goal.returns-in-Divided-clause-some
returns-in-Divided-clause-some c h =
    let f : FitsSigned w32 c.args.part.x0 = search rules in
    let g : FitsSigned w32 c.args.part.x1 = search rules in
    rw (to_z-of_z c.ranges.y, to_z-of_z f, to_z-of_z g) at (c.row_places.ensures.some h)

pub sloped_places-requires-clause-slopes : goal.sloped_places-requires-clause-slopes
sloped_places-requires-clause-slopes c =
    let f : FitsSigned w32 c.args.part.x0 = search rules in
    let g : FitsSigned w32 c.args.part.y0 = search rules in
    rw (to_z-of_z f, to_z-of_z g) (c.requires.way.slopes c.in-Slopes.slopes c.in-Slopes.is)

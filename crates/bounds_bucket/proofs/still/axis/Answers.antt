use Rattle.std.proofs.Common.{arith, to_z-of_z, FitsSigned, ◌^◌, w64}
use Rattle.bounds_bucket.proofs.Seen.{short_axis_is}
use Rattle.bounds_bucket.proofs.still.axis.Goals as goal

pub moved-requires : goal.moved-requires
moved-requires c =
    let f : FitsSigned w64 c.floor_div_64-whole.result = record { sfits = c.floor_div_64-whole.type_inv } in
    let g : FitsSigned w64 c.eightfold.result = record { sfits = c.eightfold.type_inv } in
    rw (to_z-of_z f) (c.floor_div_64-whole.ensures.small (2 ^ 51) (rw (to_z-of_z g) c.eightfold.ensures.small))

pub returns : goal.returns
returns c = rw (short_axis_is c.args.origin c.args.size c.args.x c.args.w c.requires.positive) (grind (arith, to_z-of_z))

use Rattle.std.proofs.Common.{to_z-of_z, FitsSigned, ◌^◌}
use mir.Syntax.{w128}
use Rattle.geometry.proofs.vertex.axis.Goals as goal

pub moved-requires : goal.moved-requires
moved-requires c =
    let f : FitsSigned w128 c.floor_div-whole.result = record { sfits = c.floor_div-whole.type_inv } in
    let g : FitsSigned w128 c.scaled.result = record { sfits = c.scaled.type_inv } in
    rw (to_z-of_z f) (c.floor_div-whole.ensures.small (2 ^ 101) (rw (to_z-of_z g) c.scaled.ensures.small))

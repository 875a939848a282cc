use Rattle.std.proofs.Common.{to_z-of_z, FitsSigned, w32}
use Rattle.draw_device.proofs.prepare.shared_at.Goals as goal

pub returns : goal.returns
returns c =
    let f : FitsSigned w32 c.from.result = record { sfits = c.from.type_inv } in
    let g : FitsSigned w32 c.from-2.result = record { sfits = c.from-2.type_inv } in
    rw (to_z-of_z f, to_z-of_z g, c.from.ensures, c.from-2.ensures) at c.setup_at.ensures

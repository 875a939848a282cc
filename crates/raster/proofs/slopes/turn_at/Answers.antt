use Rattle.std.proofs.Common.{to_z-of_z, w32, FitsSigned}
use Rattle.raster.proofs.slopes.turn_at.Goals as goal

pub column_after-requires-clause-room : goal.column_after-requires-clause-room
column_after-requires-clause-room c = c.columns_before.ensures.high

pub returns : goal.returns
returns c =
    let f : FitsSigned w32 c.column_after.result = record { sfits = c.column_after.type_inv } in
    rw (to_z-of_z f, c.column_after.ensures) (simp (to_z-of_z c.ranges.climb) at c.columns_before.ensures)

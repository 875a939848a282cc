use Rattle.std.proofs.Common.{arith}
use Rattle.std.proofs.lemmas.Int.{ints}
use Rattle.raster.proofs.KeptColumns.{turn_same}
use Rattle.raster.proofs.columns.falling.Goals as goal

pub returns-clause-turn : goal.returns-clause-turn
returns-clause-turn c =
    let d = c.minus_1.ensures in
    let e = c.times_16.ensures in
    turn_same _ _ _ _ _ _ _ _ (omega (arith, ints, d)) (omega (arith, ints, e)) (omega (arith, ints)) c.turn.ensures

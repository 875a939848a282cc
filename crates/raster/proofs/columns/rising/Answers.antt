use Rattle.std.proofs.Common.{arith, w32, FitsSigned}
use Rattle.std.proofs.lemmas.Int.{ints}
use Rattle.raster.proofs.KeptColumns.{turn_same}
use Rattle.raster.proofs.columns.rising.Goals as goal

pub returns-clause-turn : goal.returns-clause-turn
returns-clause-turn c =
    let f : FitsSigned w32 c.turn.result = record { sfits = c.turn.type_inv } in
    let a = c.negated.ensures in
    let b = c.negated-2.ensures in
    let d = c.minus_1.ensures in
    let e = c.times_16.ensures in
    turn_same _ _ _ _ _ _ _ _ (omega (arith, ints, a, d)) (omega (arith, ints, b, e)) (omega (arith, ints)) c.turn.ensures

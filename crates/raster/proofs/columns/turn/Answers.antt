use Rattle.std.proofs.Common.{◌≡◌, rules, arith, to_z, of_z, to_z-of_z, w32, w64, FitsSigned}
use Rattle.std.proofs.lemmas.Int.{ints}
use Rattle.rc_base.specs.Numbers.{floor_quotient}
use Rattle.raster.proofs.KeptColumns.{no_turn, turn_at_end, turn_inside, turn_not_below, turn_is}
use Rattle.raster.proofs.columns.turn.Goals as goal

pub returns-then-most-lt0 : goal.returns-then-most-lt0
returns-then-most-lt0 c =
    let f : FitsSigned w32 c.args.c.x0 = search rules in
    rw (to_z-of_z f) (no_turn c.args.most c.args.step c.args.c.x0 c.args.c.x1 (omega (arith, ints)) c.requires.step c.requires.order)

pub returns : goal.returns
returns c =
    let f : FitsSigned w32 c.turn_after.result = record { sfits = c.turn_after.type_inv } in
    let e = rw (to_z-of_z c.ranges.step) at c.reach.ensures in
    let q : to_z w64 (of_z w64 c.short_floor.result) ≡ floor_quotient c.args.most c.args.step = grind (arith, to_z-of_z) in
    rw (to_z-of_z f) (turn_is c.args.most c.args.step c.args.c.x0 c.args.c.x1 c.turn_after.result c.requires.step (omega (arith, ints)) (omega (arith, ints, e))
    (rw q at c.turn_after.ensures))

pub turn_after-requires-clause-low : goal.turn_after-requires-clause-low
turn_after-requires-clause-low c =
    let q : to_z w64 (of_z w64 c.short_floor.result) ≡ floor_quotient c.args.most c.args.step = grind (arith, to_z-of_z) in
    let n = turn_not_below c.args.most c.args.step c.requires.step (omega (arith, ints)) in
    omega (arith, ints, q, n)

pub turn_after-requires-clause-high : goal.turn_after-requires-clause-high
turn_after-requires-clause-high c =
    let e = rw (to_z-of_z c.ranges.step) at c.reach.ensures in
    let q : to_z w64 (of_z w64 c.short_floor.result) ≡ floor_quotient c.args.most c.args.step = grind (arith, to_z-of_z) in
    let n = turn_inside c.args.most c.args.step c.args.c.x0 c.args.c.x1 c.requires.step (omega (arith, ints, e)) in
    omega (arith, ints, q, n)

pub returns-then-reach-most : goal.returns-then-reach-most
returns-then-reach-most c =
    let f : FitsSigned w32 c.args.c.x1 = search rules in
    let e = rw (to_z-of_z c.ranges.step) at c.reach.ensures in
    rw (to_z-of_z f) (turn_at_end c.args.most c.args.step c.args.c.x0 c.args.c.x1 c.requires.step c.requires.order (omega (arith, ints, e)))

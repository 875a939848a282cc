use Rattle.std.proofs.Common.{◌≡◌, ◌∙◌, rules, sym, pos, ◌-ℤ◌, ◌<ℤ◌, arith, to_z, of_z, to_z-of_z, w64, FitsSigned, w32}
use Rattle.std.proofs.lemmas.Int.{ints}
use Rattle.rc_base.specs.Drawing.Cover.{edge_value, centre}
use Rattle.raster.proofs.KeptColumns.{turn_same}
use Rattle.raster.proofs.KeptRows.{rows_rising, rows_falling, rows_all, rows_none}
use Rattle.raster.proofs.column.kept_rows.Goals as goal

pub returns-then-left-lt0 : goal.returns-then-left-lt0
returns-then-left-lt0 c =
    let a = c.args.a.now in
    let b = c.args.b.now in
    let dx : to_z w64 (of_z w64 c.delta-left.result) ≡ a.x -ℤ b.x = grind (arith, to_z-of_z) in
    let e : to_z w64 (of_z w64 c.edge-e.result) ≡ edge_value a b (centre c.args.x) (centre c.args.c.x0) = grind (arith, to_z-of_z) in
    let s = rw (e, c.keeps-line.ensures) at c.strict.ensures.value in
    let m = c.minus_1.ensures in
    let h : (a.x -ℤ b.x) <ℤ pos 0 = omega (arith, ints, dx) in
    rows_rising a b c.args.x c.args.c c.rising.result h (turn_same _ _ _ _ _ _ _ _ (omega (arith, ints, s, m)) (omega (arith, ints, dx)) (omega (arith, ints)) c.rising.ensures.turn) c.rising.ensures.end

pub returns-then-left-gt0 : goal.returns-then-left-gt0
returns-then-left-gt0 c =
    let a = c.args.a.now in
    let b = c.args.b.now in
    let dx : to_z w64 (of_z w64 c.delta-left.result) ≡ a.x -ℤ b.x = grind (arith, to_z-of_z) in
    let e : to_z w64 (of_z w64 c.edge-e.result) ≡ edge_value a b (centre c.args.x) (centre c.args.c.x0) = grind (arith, to_z-of_z) in
    let s = rw (e, c.keeps-line.ensures) at c.strict-then-left-gt0.ensures.value in
    rows_falling a b c.args.x c.args.c c.falling.result (turn_same _ _ _ _ _ _ _ _ (omega (arith, ints, s)) (omega (arith, ints, dx)) (omega (arith, ints)) c.falling.ensures.turn) c.falling.ensures.start

pub returns-then-passes_edge : goal.returns-then-passes_edge
returns-then-passes_edge c =
    let a = c.args.a.now in
    let b = c.args.b.now in
    let dx : to_z w64 (of_z w64 c.delta-left.result) ≡ a.x -ℤ b.x = grind (arith, to_z-of_z) in
    let e : to_z w64 (of_z w64 c.edge-e.result) ≡ edge_value a b (centre c.args.x) (centre c.args.c.x0) = grind (arith, to_z-of_z) in
    let h : (a.x -ℤ b.x) ≡ pos 0 = omega (arith, ints, dx) in
    rows_all a b c.args.x c.args.c c.requires.order h (rw (e, c.keeps-line.ensures) at (sym c.passes_edge.ensures ∙ c.if-passes_edge.true))

pub returns : goal.returns
returns c =
    let a = c.args.a.now in
    let b = c.args.b.now in
    let dx : to_z w64 (of_z w64 c.delta-left.result) ≡ a.x -ℤ b.x = grind (arith, to_z-of_z) in
    let e : to_z w64 (of_z w64 c.edge-e.result) ≡ edge_value a b (centre c.args.x) (centre c.args.c.x0) = grind (arith, to_z-of_z) in
    let h : (a.x -ℤ b.x) ≡ pos 0 = omega (arith, ints, dx) in
    let f : FitsSigned w32 c.args.c.x0 = search rules in
    let n = rows_none a b c.args.x c.args.c c.requires.order h (rw (e, c.keeps-line.ensures) at (sym c.passes_edge.ensures ∙ c.if-passes_edge.false)) in
    rw (to_z-of_z f) n

pub rising-requires-clause-e : goal.rising-requires-clause-e
rising-requires-clause-e c = let m = c.minus_1.ensures in let s = c.strict.ensures.small in let p = s.0 in let q = s.1 in (omega (arith, ints), omega (arith, ints))

pub minus_1-requires : goal.minus_1-requires
minus_1-requires c = let s = c.strict.ensures.small in let p = s.0 in let q = s.1 in (omega (arith, ints), omega (arith, ints))

pub falling-requires-clause-e : goal.falling-requires-clause-e
falling-requires-clause-e c = let s = c.strict-then-left-gt0.ensures.small in let p = s.0 in let q = s.1 in (omega (arith, ints), omega (arith, ints))

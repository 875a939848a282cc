use Rattle.std.proofs.Common.{◌≡◌, ◌∙◌, rules, sym, pos, ◌-ℤ◌, ◌<ℤ◌, arith, to_z, of_z, to_z-of_z, w64, FitsSigned, w32}
use Rattle.std.proofs.lemmas.Int.{ints}
use Rattle.rc_base.specs.Drawing.Cover.{edge_value, centre}
use Rattle.raster.proofs.KeptColumns.{kept_rising, kept_falling, kept_all, kept_none}
use Rattle.raster.proofs.columns.kept_columns.Goals as goal

pub returns-then-dy-lt0 : goal.returns-then-dy-lt0
returns-then-dy-lt0 c =
    let a = c.args.a.now in
    let b = c.args.b.now in
    let dy : to_z w64 (of_z w64 c.delta-dy.result) ≡ b.y -ℤ a.y = grind (arith, to_z-of_z) in
    let e : to_z w64 (of_z w64 c.edge-e.result) ≡ edge_value a b (centre c.args.c.x0) (centre c.args.y) = grind (arith, to_z-of_z) in
    let h : (b.y -ℤ a.y) <ℤ pos 0 = omega (arith, ints, dy) in
    kept_rising a b c.args.y c.args.c c.rising.result h (rw (dy, e) at c.rising.ensures.turn) c.rising.ensures.end

pub returns-then-dy-gt0 : goal.returns-then-dy-gt0
returns-then-dy-gt0 c =
    let a = c.args.a.now in
    let b = c.args.b.now in
    let dy : to_z w64 (of_z w64 c.delta-dy.result) ≡ b.y -ℤ a.y = grind (arith, to_z-of_z) in
    let e : to_z w64 (of_z w64 c.edge-e.result) ≡ edge_value a b (centre c.args.c.x0) (centre c.args.y) = grind (arith, to_z-of_z) in
    let h : pos 0 <ℤ (b.y -ℤ a.y) = omega (arith, ints, dy) in
    kept_falling a b c.args.y c.args.c c.falling.result h (rw (dy, e) at c.falling.ensures.turn) c.falling.ensures.start

pub returns-then-passes_edge : goal.returns-then-passes_edge
returns-then-passes_edge c =
    let a = c.args.a.now in
    let b = c.args.b.now in
    let dy : to_z w64 (of_z w64 c.delta-dy.result) ≡ b.y -ℤ a.y = grind (arith, to_z-of_z) in
    let e : to_z w64 (of_z w64 c.edge-e.result) ≡ edge_value a b (centre c.args.c.x0) (centre c.args.y) = grind (arith, to_z-of_z) in
    let h : (b.y -ℤ a.y) ≡ pos 0 = omega (arith, ints, dy) in
    kept_all a b c.args.y c.args.c c.requires.order h (rw (e, c.keeps.ensures) at (sym c.passes_edge.ensures ∙ c.if-passes_edge.true))

pub returns : goal.returns
returns c =
    let a = c.args.a.now in
    let b = c.args.b.now in
    let dy : to_z w64 (of_z w64 c.delta-dy.result) ≡ b.y -ℤ a.y = grind (arith, to_z-of_z) in
    let e : to_z w64 (of_z w64 c.edge-e.result) ≡ edge_value a b (centre c.args.c.x0) (centre c.args.y) = grind (arith, to_z-of_z) in
    let h : (b.y -ℤ a.y) ≡ pos 0 = omega (arith, ints, dy) in
    let f : FitsSigned w32 c.args.c.x0 = search rules in
    let n = kept_none a b c.args.y c.args.c c.requires.order h (rw (e, c.keeps.ensures) at (sym c.passes_edge.ensures ∙ c.if-passes_edge.false)) in
    rw (to_z-of_z f) n

pub rising-requires-clause-e : goal.rising-requires-clause-e
rising-requires-clause-e c = let s = c.edge-e.ensures.small in let p = s.0 in let q = s.1 in (omega (arith, ints), omega (arith, ints))

pub falling-requires-clause-e : goal.falling-requires-clause-e
falling-requires-clause-e c = let s = c.edge-e.ensures.small in let p = s.0 in let q = s.1 in (omega (arith, ints), omega (arith, ints))

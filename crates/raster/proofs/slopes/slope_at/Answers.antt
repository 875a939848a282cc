use Rattle.std.proofs.Common.{◌≡◌, ◌∙◌, FitsSigned, neg_ℤ, ◌-ℤ◌, arith, to_z, of_z, to_z-of_z, w64}
use Rattle.std.proofs.lemmas.Int.{ints}
use Rattle.rc_base.specs.Drawing.Cover.{edge_value, centre}
use Rattle.raster.proofs.SlopesToSpan.{left_told, right_told, level_told}
use Rattle.raster.proofs.slopes.slope_at.Goals as goal

pub returns-then-dy-lt0 : goal.returns-then-dy-lt0
returns-then-dy-lt0 c =
    let a = c.args.a.now in
    let b = c.args.b.now in
    let dx : to_z w64 (of_z w64 c.delta-dx.result) ≡ b.x -ℤ a.x = grind (arith, to_z-of_z) in
    let dy : to_z w64 (of_z w64 c.delta-dy.result) ≡ b.y -ℤ a.y = grind (arith, to_z-of_z) in
    let e : to_z w64 (of_z w64 c.edge-e.result) ≡ edge_value a b (centre c.args.x0) (centre c.args.y0) = grind (arith, to_z-of_z) in
    let f : FitsSigned w64 c.negated.result = record { sfits = c.negated.type_inv } in
    let g : FitsSigned w64 c.negated-then-dy-lt0.result = record { sfits = c.negated-then-dy-lt0.type_inv } in
    let h : FitsSigned w64 c.negated-then-dy-lt0-2.result = record { sfits = c.negated-then-dy-lt0-2.type_inv } in
    let ne : to_z w64 (of_z w64 c.negated.result) ≡ neg_ℤ (edge_value a b (centre c.args.x0) (centre c.args.y0)) = to_z-of_z f ∙ (rw e at c.negated.ensures) in
    let nx : to_z w64 (of_z w64 c.negated-then-dy-lt0.result) ≡ neg_ℤ (b.x -ℤ a.x) = to_z-of_z g ∙ (rw dx at c.negated-then-dy-lt0.ensures) in
    let ny : to_z w64 (of_z w64 c.negated-then-dy-lt0-2.result) ≡ neg_ℤ (b.y -ℤ a.y) = to_z-of_z h ∙ (rw dy at c.negated-then-dy-lt0-2.ensures) in
    let s = c.turns.ensures in
    left_told a b c.args.x0 c.args.y0 c.turns.result (omega (arith, ints, dy)) (rw ne at s.first, rw nx at s.gain, rw ny at s.step)

pub returns-then-dy-gt0 : goal.returns-then-dy-gt0
returns-then-dy-gt0 c =
    let a = c.args.a.now in
    let b = c.args.b.now in
    let dx : to_z w64 (of_z w64 c.delta-dx.result) ≡ b.x -ℤ a.x = grind (arith, to_z-of_z) in
    let dy : to_z w64 (of_z w64 c.delta-dy.result) ≡ b.y -ℤ a.y = grind (arith, to_z-of_z) in
    let e : to_z w64 (of_z w64 c.edge-e.result) ≡ edge_value a b (centre c.args.x0) (centre c.args.y0) = grind (arith, to_z-of_z) in
    let s = c.turns-then-dy-gt0.ensures in
    right_told a b c.args.x0 c.args.y0 c.turns-then-dy-gt0.result (omega (arith, ints, dy)) (rw e at s.first, rw dx at s.gain, rw dy at s.step)

pub returns : goal.returns
returns c =
    let a = c.args.a.now in
    let b = c.args.b.now in
    let dx : to_z w64 (of_z w64 c.delta-dx.result) ≡ b.x -ℤ a.x = grind (arith, to_z-of_z) in
    let dy : to_z w64 (of_z w64 c.delta-dy.result) ≡ b.y -ℤ a.y = grind (arith, to_z-of_z) in
    let e : to_z w64 (of_z w64 c.edge-e.result) ≡ edge_value a b (centre c.args.x0) (centre c.args.y0) = grind (arith, to_z-of_z) in
    let f : FitsSigned w64 c.strict.result = record { sfits = c.strict.type_inv } in
    level_told a b c.args.x0 c.args.y0 c.level.result (omega (arith, ints, dy)) (c.level.ensures.first ∙ to_z-of_z f ∙ (rw (e, c.keeps.ensures) at c.strict.ensures.value)) (rw dx at c.level.ensures.gain)

use Rattle.std.proofs.Common.{◌≡◌, ◌∙◌, rules, refl, pos, ◌-ℤ◌, ◌*ℤ◌, to_z, of_z, to_z-of_z, w32, w64, FitsSigned}
use Rattle.raster.proofs.SlopesToSpan.{kept_left, kept_right, kept_level}
use Rattle.raster.proofs.slopes.kept_by.Goals as goal

pub returns-in-Left : goal.returns-in-Left
returns-in-Left c =
    let t = c.in-Left.t in
    let a = c.args.a.now in
    let b = c.args.b.now in
    let f : FitsSigned w32 c.turn_at.result = record { sfits = c.turn_at.type_inv } in
    let g : FitsSigned w32 c.args.c.x1 = search rules in
    let h : FitsSigned w64 c.climb.result = record { sfits = c.climb.type_inv } in
    let e : to_z w64 (of_z w64 c.climb.result) ≡ pos 16 *ℤ (c.args.y -ℤ c.args.y0) = to_z-of_z h ∙ (rw (to_z-of_z c.ranges.y, to_z-of_z c.ranges.y0) at c.climb.ensures.value) in
    let s = c.requires.slope.left t c.in-Left.is in
    rw (to_z-of_z f, to_z-of_z g) (kept_left a b c.args.y0 c.args.y t.first t.gain t.step c.args.c _ (c.requires.slope.down t c.in-Left.is) s.0 s.1 s.2 (rw e at c.turn_at.ensures) refl)

pub returns-in-Right : goal.returns-in-Right
returns-in-Right c =
    let t = c.in-Right.t in
    let a = c.args.a.now in
    let b = c.args.b.now in
    let f : FitsSigned w32 c.turn_at-in-Right.result = record { sfits = c.turn_at-in-Right.type_inv } in
    let g : FitsSigned w32 c.args.c.x0 = search rules in
    let h : FitsSigned w64 c.climb-in-Right.result = record { sfits = c.climb-in-Right.type_inv } in
    let e : to_z w64 (of_z w64 c.climb-in-Right.result) ≡ pos 16 *ℤ (c.args.y -ℤ c.args.y0) = to_z-of_z h ∙ (rw (to_z-of_z c.ranges.y, to_z-of_z c.ranges.y0) at c.climb-in-Right.ensures.value) in
    let s = c.requires.slope.right t c.in-Right.is in
    rw (to_z-of_z f, to_z-of_z g) (kept_right a b c.args.y0 c.args.y t.first t.gain t.step c.args.c _ (c.requires.slope.up t c.in-Right.is) s.0 s.1 s.2 (rw e at c.turn_at-in-Right.ensures) refl)

pub returns-in-Level : goal.returns-in-Level
returns-in-Level c =
    let l = c.in-Level.l in
    let a = c.args.a.now in
    let b = c.args.b.now in
    let h : FitsSigned w64 c.climb-in-Level.result = record { sfits = c.climb-in-Level.type_inv } in
    let e : to_z w64 (of_z w64 c.climb-in-Level.result) ≡ pos 16 *ℤ (c.args.y -ℤ c.args.y0) = to_z-of_z h ∙ (rw (to_z-of_z c.ranges.y, to_z-of_z c.ranges.y0) at c.climb-in-Level.ensures.value) in
    let s = c.requires.slope.flat l c.in-Level.is in
    kept_level a b c.args.y0 c.args.y l.first l.gain c.args.c _ c.requires.order (c.requires.slope.level l c.in-Level.is) s.0 s.1
    (rw e at c.level_columns.ensures.all) (rw e at c.level_columns.ensures.none)

use Rattle.std.proofs.Common.{◌≡◌, to_z-of_z, to_z, of_z, FitsSigned, ◌<ℤ◌, [], ◌∷◌, arith, pos, rules}
use Rattle.std.proofs.lemmas.Int.{ints}
use mir.Syntax.{w32, w64, w128}
use Rattle.rc_base.specs.declared.window.WindowVertex.{WindowVertex}
use Rattle.rc_base.specs.declared.state.Vertex.{Vertex}
use Rattle.geometry.specs.Vertices.{vertex_with}
use Rattle.rc_base.specs.Drawing.Window.{window_at}
use Rattle.geometry.proofs.PiecesKept.{not_placed, place_at}
use Rattle.geometry.proofs.cutting.place.Goals as goal

pub returns-then-c-le0 : goal.returns-then-c-le0
returns-then-c-le0 c = not_placed c.args.state.now c.args.c.now (let f : FitsSigned w64 c.args.c.now.w = search rules in omega (arith, ints))

pub returns : goal.returns
unfolding window_at
returns c =
    let s = c.args.state.now in
    let v = c.args.c.now in
    let f : FitsSigned w64 v.w = search rules in
    let h : pos 0 <ℤ v.w = omega (arith, ints) in
    let carried : Vertex = record { pos = pos 0 ∷ pos 0 ∷ pos 0 ∷ pos 0 ∷ []; color = v.color; s = to_z w32 (of_z w32 v.s); t = to_z w32 (of_z w32 v.t) } in
    let a : WindowVertex = vertex_with carried (to_z w128 (of_z w128 c.axis-x.result)) (to_z w128 (of_z w128 c.axis-y.result)) (to_z w128 (of_z w128 c.depth-z.result)) in
    let q : a ≡ window_at s v = grind (arith, to_z-of_z) in
    place_at s v a c.narrow.result h q c.narrow.ensures

pub depth-z-requires : goal.depth-z-requires
depth-z-requires c =
    let f : FitsSigned w64 c.args.c.now.w = search rules in
    let g : FitsSigned w128 c.wide-w.result = record { sfits = c.wide-w.type_inv } in
    let h : FitsSigned w128 c.wide-3.result = record { sfits = c.wide-3.type_inv } in
    let e = c.wide-w.ensures.value in
    rw (to_z-of_z g, to_z-of_z h) (record { positive = omega (arith, ints, e); coordinate = c.wide-3.ensures.small; divisor = c.wide-w.ensures.small })

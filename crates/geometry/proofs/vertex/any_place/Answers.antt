use Rattle.std.proofs.Common.{◌≡◌, to_z-of_z, to_z, of_z, FitsSigned, ◌<ℤ◌, arith, pos, ℤ, List, subst, rules, ◌∙◌}
use Rattle.std.specs.Prelude.{◌≤ℤ◌}
use Rattle.std.proofs.lemmas.Int.{ints}
use mir.Syntax.{w128}
use Rattle.rc_base.specs.Numbers.{entry}
use Rattle.rc_base.specs.Drawing.Window.{window_of, window_at, clip_of}
use Rattle.geometry.specs.Vertices.{vertex_with}
use Rattle.rc_base.specs.declared.window.WindowVertex.{WindowVertex}
use Rattle.geometry.proofs.Fronts.{stands, unplaced, behind}
use Rattle.geometry.proofs.vertex.any_place.Goals as goal

pub returns-then-c-le0 : goal.returns-then-c-le0
returns-then-c-le0 c =
    let s = c.args.state.now in
    let v = c.args.v.now in
    let f : FitsSigned w128 (entry c.clip-c.result 3) = search rules in
    let g : entry c.clip-c.result 3 ≤ℤ pos 0 = omega (arith, ints) in
    let h : entry (clip_of s v) 3 ≤ℤ pos 0 = subst (λ (l : List ℤ). entry l 3 ≤ℤ pos 0) c.clip-c.ensures.value g in
    (unplaced s v h, behind s v h)

pub returns : goal.returns
unfolding window_of window_at
returns c =
    let s = c.args.state.now in
    let v = c.args.v.now in
    let a : WindowVertex = vertex_with v (to_z w128 (of_z w128 c.axis-x.result)) (to_z w128 (of_z w128 c.axis-y.result)) (to_z w128 (of_z w128 c.depth-z.result)) in
    let q : a ≡ window_of s v = grind (arith, to_z-of_z) in
    let f : FitsSigned w128 (entry c.clip-c.result 3) = search rules in
    let g : pos 0 <ℤ entry c.clip-c.result 3 = omega (arith, ints) in
    let h : pos 0 <ℤ entry (clip_of s v) 3 = subst (λ (l : List ℤ). pos 0 <ℤ entry l 3) c.clip-c.ensures.value g in
    (h, q, c.are_in_front-front.ensures ∙ stands s v c.clip-c.result c.clip-c.ensures.value)

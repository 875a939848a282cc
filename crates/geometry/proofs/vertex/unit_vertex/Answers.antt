use Rattle.std.proofs.Common.{◌≡◌, to_z-of_z, to_z, of_z, ◌<ℤ◌, arith, pos, sym, ℤ, List, subst}
use Rattle.std.proofs.lemmas.Int.{ints}
use mir.Syntax.{w128}
use Rattle.rc_base.specs.Numbers.{entry}
use Rattle.rc_base.specs.Drawing.Window.{window_of, clip_of}
use Rattle.geometry.specs.Vertices.{vertex_with}
use Rattle.geometry.proofs.Facing.{place_of}
use Rattle.geometry.proofs.Units.{unit_window}
use Rattle.rc_base.specs.declared.window.WindowVertex.{WindowVertex}
use Rattle.geometry.proofs.vertex.unit_vertex.Goals as goal

pub returns : goal.returns
returns c =
    let s = c.args.state.now in
    let v = c.args.v.now in
    let a : WindowVertex = vertex_with v (to_z w128 (of_z w128 c.from.result)) (to_z w128 (of_z w128 c.from-2.result)) (to_z w128 (of_z w128 c.depth_in-z.result)) in
    let q : a ≡ window_of s v = rw (unit_window s v c.requires.clip c.requires.w) (grind (arith, to_z-of_z)) in
    let g : pos 0 <ℤ entry v.pos 3 = rw c.requires.w (omega (arith, ints)) in
    let h : pos 0 <ℤ entry (clip_of s v) 3 = subst (λ (l : List ℤ). pos 0 <ℤ entry l 3) (sym c.requires.clip) g in
    place_of s v a c.narrow.result h q c.narrow.ensures

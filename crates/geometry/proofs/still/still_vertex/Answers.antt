use Rattle.std.proofs.Common.{◌≡◌, to_z-of_z, to_z, of_z, ◌<ℤ◌, arith, pos, sym, List, ℤ, subst}
use mir.Syntax.{w128}
use Rattle.rc_base.specs.Numbers.{entry}
use Rattle.rc_base.specs.Drawing.Window.{window_of, clip_of}
use Rattle.geometry.specs.Vertices.{vertex_with}
use Rattle.geometry.proofs.Facing.{place_of}
use Rattle.geometry.proofs.Units.{still_window}
use Rattle.rc_base.specs.declared.window.WindowVertex.{WindowVertex}
use Rattle.geometry.proofs.still.still_vertex.Goals as goal

pub returns : goal.returns
returns c =
    let s = c.args.state.now in
    let v = c.args.v.now in
    let a : WindowVertex = vertex_with v (to_z w128 (of_z w128 c.from.result)) (to_z w128 (of_z w128 c.from-2.result)) (to_z w128 (of_z w128 c.from-3.result)) in
    let q : a ≡ window_of s v = rw (still_window s v c.requires.clip c.requires.usual) (grind (arith, to_z-of_z)) in
    let h : pos 0 <ℤ entry (clip_of s v) 3 = subst (λ (l : List ℤ). pos 0 <ℤ entry l 3) (sym c.requires.clip) c.requires.w in
    place_of s v a c.narrow.result h q c.narrow.ensures

use Rattle.std.proofs.Common.{to_z-of_z, FitsSigned, rules}
use mir.Syntax.{w128}
use Rattle.geometry.specs.Vertices.{vertex_with}
use Rattle.geometry.proofs.Facing.{place_of}
use Rattle.geometry.proofs.Unmoved.{unmoved, usual_of}
use Rattle.geometry.proofs.Units.{clip_fixed}
use Rattle.geometry.proofs.vertex.stand_of.Goals as goal

pub still_vertex-requires-clause-clip : goal.still_vertex-requires-clause-clip
still_vertex-requires-clause-clip c = unmoved c.args.state.now c.args.identities c.args.v.now c.requires (c.is_still.ensures.still c.if-is_still.true)

pub still_vertex-requires-clause-usual : goal.still_vertex-requires-clause-usual
still_vertex-requires-clause-usual c = c.requires.usual (usual_of c.args.identities (c.is_still.ensures.still c.if-is_still.true))

pub still_front-requires : goal.still_front-requires
still_front-requires c = unmoved c.args.state.now c.args.identities c.args.v.now c.requires (c.is_still.ensures.still c.if-is_still.true)

pub unit_vertex-requires-clause-clip : goal.unit_vertex-requires-clause-clip
unit_vertex-requires-clause-clip c =
    let u = c.if-is_unit.true in
    let m = c.requires.modelview (c.is_unit.ensures.modelview u) in
    let p = c.requires.projection (c.is_unit.ensures.projection u) in
    clip_fixed c.args.state.now c.args.v.now m p

pub still_front-requires-then-is_unit : goal.still_front-requires-then-is_unit
still_front-requires-then-is_unit c =
    let u = c.if-is_unit.true in
    let m = c.requires.modelview (c.is_unit.ensures.modelview u) in
    let p = c.requires.projection (c.is_unit.ensures.projection u) in
    clip_fixed c.args.state.now c.args.v.now m p

pub returns-clause-at : goal.returns-clause-at
returns-clause-at c =
    let s = c.args.state.now in
    let v = c.args.v.now in
    let e = c.in-Some.ensures in
    let p = c.in-Some.place in
    let x : FitsSigned w128 p.x = search rules in
    let y : FitsSigned w128 p.y = search rules in
    let z : FitsSigned w128 p.z = search rules in
    place_of s v (vertex_with v p.x p.y p.z) c.narrow.result e.0 e.1 (rw (to_z-of_z x, to_z-of_z y, to_z-of_z z) at c.narrow.ensures)

use Rattle.std.proofs.Common.{◌∙◌, ◌&&◌, sym, to_z-of_z, arith, rules}
use Rattle.std.proofs.lemmas.Bool.{and_parts}
use Rattle.std.proofs.lemmas.Int.{ints}
use Rattle.geometry.proofs.Unmoved.{usual_of}
use Rattle.geometry.proofs.reject.clip_bounds.Goals as goal

pub axis_bounds-requires : goal.axis_bounds-requires
axis_bounds-requires c =
    let u = c.requires.usual (usual_of c.args.identities (sym c.are_still.ensures ∙ c.if-not-are_still.false)) in
    search (arith, ints, to_z-of_z, u.width)

pub axis_bounds-requires-2 : goal.axis_bounds-requires-2
axis_bounds-requires-2 c =
    let u = c.requires.usual (usual_of c.args.identities (sym c.are_still.ensures ∙ c.if-not-are_still.false)) in
    search (arith, ints, to_z-of_z, u.height)

pub returns : goal.returns
returns c =
    let parts = and_parts c.args.identities.modelview (c.args.identities.projection && c.args.identities.usual) (sym c.are_still.ensures ∙ c.if-not-are_still.false) in
    record {
      modelview = c.requires.modelview parts.0;
      projection = c.requires.projection (and_parts c.args.identities.projection c.args.identities.usual parts.1).0;
      across = search (rules, to_z-of_z, c.in_ok-across.ensures);
      up = search (rules, to_z-of_z, c.in_ok-up.ensures);
    }

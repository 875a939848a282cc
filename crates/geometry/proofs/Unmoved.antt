-- What is known where nothing moves a vertex.
use Rattle.std.proofs.Common.{◌≡◌, true, ◌&&◌}
use Rattle.std.proofs.lemmas.Bool.{and_parts}
use Rattle.rc_base.specs.Drawing.Window.{clip_of}
use Rattle.rc_base.specs.declared.state.State.{State}
use Rattle.rc_base.specs.declared.state.Vertex.{Vertex}
use Rattle.fixed_math.specs.Bounds.{four}
use Rattle.geometry.specs.Placed.{AreIdentities, are_still}
use Rattle.geometry.specs.declared.identities.Identities.{Identities}
use Rattle.geometry.proofs.Units.{clip_fixed}

pub usual_of : (i : Identities) → are_still i ≡ true → i.usual ≡ true
usual_of i h = (and_parts i.projection i.usual (and_parts i.modelview (i.projection && i.usual) h).1).1

pub unmoved : (s : State) (i : Identities) (v : Vertex) → AreIdentities s i → are_still i ≡ true → clip_of s v ≡ four v.pos
unmoved s i v known h =
    let parts = and_parts i.modelview (i.projection && i.usual) h in
    clip_fixed s v (known.modelview parts.0) (known.projection (and_parts i.projection i.usual parts.1).0)

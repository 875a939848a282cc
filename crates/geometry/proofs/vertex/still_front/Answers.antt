use Rattle.std.proofs.Common.{◌∙◌, sym}
use Rattle.geometry.proofs.Fronts.{stands}
use Rattle.geometry.proofs.vertex.still_front.Goals as goal

pub returns : goal.returns
returns c = c.are_in_front.ensures ∙ stands c.args.state.now c.args.v.now c.widen.result (c.widen.ensures.value ∙ sym c.requires)

use Rattle.render_core.proofs.FirstRefusals.{in_order}
use Rattle.render_core.proofs.laws.refusals_come_in_order.Goals as goal

pub returns : goal.returns
returns c = in_order

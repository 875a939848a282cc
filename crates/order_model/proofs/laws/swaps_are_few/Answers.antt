use Rattle.order_model.proofs.SwapsAreFew.{few_swaps}
use Rattle.order_model.proofs.laws.swaps_are_few.Goals as goal

pub returns : goal.returns
returns c = few_swaps

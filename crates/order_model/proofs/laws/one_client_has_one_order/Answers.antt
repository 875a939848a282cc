use Rattle.order_model.proofs.laws.one_client_has_one_order.Goals as goal
use Rattle.order_model.proofs.OneClientHasOneOrder.{one_client_has_one_order}

pub returns : goal.returns
returns c = one_client_has_one_order

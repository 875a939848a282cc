use Rattle.order_model.proofs.laws.default_orders_are_permitted.Goals as goal
use Rattle.order_model.proofs.DefaultOrderIsPermitted.{default_permitted}

pub returns : goal.returns
returns c = default_permitted

use Rattle.render_core.proofs.KeptOrders.{kept_orders}
use Rattle.render_core.proofs.laws.kept_orders_are_permitted.Goals as goal

pub returns : goal.returns
returns c = kept_orders

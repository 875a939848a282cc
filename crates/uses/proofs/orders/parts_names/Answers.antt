use Rattle.rc_base.specs.Orders.Order.Precedes.{Parted}
use Rattle.uses.proofs.orders.parts_names.Goals as goal

pub returns : goal.returns
returns c permitted m a b i j is_entry is_first is_second before behind has_first has_second =
    (c.is_permitted.ensures.0 permitted).sequence a b has_first has_second (Parted m i j is_entry is_first is_second before behind)

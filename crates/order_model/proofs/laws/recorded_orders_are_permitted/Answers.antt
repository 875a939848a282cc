use Rattle.order_model.proofs.laws.recorded_orders_are_permitted.Goals as goal
use Rattle.order_model.proofs.RecordedOrdersArePermitted.{recorded_order_permitted, lawful_record_permitted}

pub returns-clause-log : goal.returns-clause-log
returns-clause-log c = recorded_order_permitted

pub returns-clause-record : goal.returns-clause-record
returns-clause-record c = lawful_record_permitted

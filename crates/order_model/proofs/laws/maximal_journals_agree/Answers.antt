use Rattle.order_model.proofs.laws.maximal_journals_agree.Goals as goal
use Rattle.order_model.proofs.MaximalJournalsAgree.{reach_agrees, waiting_agrees, orders_agree}

pub returns-clause-ends : goal.returns-clause-ends
returns-clause-ends c syncs well alone j k m n client = (waiting_agrees syncs alone j k m n client, reach_agrees syncs alone j k m n client)

pub returns-clause-orders : goal.returns-clause-orders
returns-clause-orders c syncs well uncontended j k m n = orders_agree syncs uncontended j k m n

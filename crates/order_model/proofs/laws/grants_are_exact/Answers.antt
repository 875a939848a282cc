use Rattle.order_model.proofs.laws.grants_are_exact.Goals as goal
use Rattle.order_model.proofs.GrantsAreExact.{grant_lawful, grant_none}

pub returns-clause-lawful : goal.returns-clause-lawful
returns-clause-lawful c = grant_lawful

pub returns-clause-none : goal.returns-clause-none
returns-clause-none c = grant_none

use Rattle.client_issue.proofs.ClientsMeetTheirClause.{new_clause, under_way, done}
use Rattle.client_issue.proofs.laws.clients_meet_their_clause.Goals as goal

pub returns-clause-first : goal.returns-clause-first
returns-clause-first c = new_clause

pub returns-clause-prefix : goal.returns-clause-prefix
returns-clause-prefix c = under_way

pub returns-clause-ended : goal.returns-clause-ended
returns-clause-ended c = done

use Rattle.client_issue.proofs.Rising.{ends}
use Rattle.client_issue.proofs.Split.{splits}
use Rattle.client_issue.proofs.laws.sends_are_parcels.Goals as goal

pub returns-clause-split : goal.returns-clause-split
returns-clause-split c = splits

pub returns-clause-ends : goal.returns-clause-ends
returns-clause-ends c = ends

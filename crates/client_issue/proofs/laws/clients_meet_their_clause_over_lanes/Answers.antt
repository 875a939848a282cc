use Rattle.client_issue.proofs.ClientsMeetTheirClause.{step_clause}
use Rattle.client_issue.proofs.laws.clients_meet_their_clause_over_lanes.Goals as goal

pub returns : goal.returns
returns g c = step_clause g.P.Outlet.sent g.P.Outlet.full_seen g.P.Outlet.full g.Q.Outlet.sent g.Q.Outlet.full_seen g.Q.Outlet.full

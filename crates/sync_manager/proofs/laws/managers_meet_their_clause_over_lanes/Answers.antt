use Rattle.sync_manager.proofs.ManagersMeetTheirClause.{lanes_clause}
use Rattle.sync_manager.proofs.laws.managers_meet_their_clause_over_lanes.Goals as goal

pub returns : goal.returns
returns g c = lanes_clause g.I.Inlet.gave g.I.Inlet.same g.O.Outlet.sent

use Rattle.sync_manager.proofs.ManagerSteps.{granted_step}
use Rattle.sync_manager.proofs.manager.ManagerCore.grant.Goals as goal

pub returns : goal.returns
returns c = granted_step c.args.self.now c.carry_out.new.self _ c.carry_out.ensures.clients c.args.entry c.requires.0 c.requires.1 c.requires.2 c.carry_out.ensures.granted

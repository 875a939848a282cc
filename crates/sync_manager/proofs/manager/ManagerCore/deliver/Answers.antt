use Rattle.std.proofs.Common.{arith, rules}
use Rattle.std.proofs.lemmas.Grind.{common_steps}
use Rattle.sync_manager.proofs.ManagerSteps.{full_step}
use Rattle.sync_manager.proofs.manager.ManagerCore.deliver.Goals as goal

pub returns-in-Err : goal.returns-in-Err
returns-in-Err g c = record {
  step = full_step c.args.self.now c.args.tile c.args.grant c.requires.due;
  grants = record {
    lanes = grind (arith, common_steps);
    appended = grind (arith, common_steps);
    found_full = grind (arith, common_steps);
  };
  requests = search rules;
}

use Rattle.world_model.proofs.EndedWorlds.{legal_logs}
use Rattle.world_model.proofs.laws.sound_worlds_have_legal_logs.Goals as goal

pub returns : goal.returns
returns c = legal_logs

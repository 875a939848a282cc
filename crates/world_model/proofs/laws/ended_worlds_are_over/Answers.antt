use Rattle.world_model.proofs.EndedWorlds.{all_over}
use Rattle.world_model.proofs.laws.ended_worlds_are_over.Goals as goal

pub returns : goal.returns
returns c scene l w range sound ended = all_over scene l w sound ended range

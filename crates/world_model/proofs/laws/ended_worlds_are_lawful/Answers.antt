use Rattle.world_model.proofs.EndedWorlds.{record_lawful}
use Rattle.world_model.proofs.laws.ended_worlds_are_lawful.Goals as goal

pub returns : goal.returns
returns c scene l w kept range sound ended is = record_lawful scene l w sound ended c.gathering_is_lawful.ensures range kept is

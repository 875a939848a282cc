use Rattle.world_model.proofs.RestingRounds.{rests_still}
use Rattle.world_model.proofs.StoppedWorldsRest.{stopped_worlds_rest, last_turns_tell}
use Rattle.world_model.proofs.laws.stopped_worlds_rest.Goals as goal

pub returns-clause-still : goal.returns-clause-still
returns-clause-still c = rests_still

pub returns-clause-stopped : goal.returns-clause-stopped
returns-clause-stopped c = stopped_worlds_rest c.managers_are_right.ensures.done

pub returns-clause-told : goal.returns-clause-told
returns-clause-told c = last_turns_tell

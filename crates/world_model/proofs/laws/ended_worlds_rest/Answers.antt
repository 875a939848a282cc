use Rattle.world_model.proofs.EndedWorldsRest.{rests_change_nothing, ended_worlds_rest, last_rounds_tell}
use Rattle.world_model.proofs.laws.ended_worlds_rest.Goals as goal

pub returns-clause-still : goal.returns-clause-still
returns-clause-still c = rests_change_nothing

pub returns-clause-ended : goal.returns-clause-ended
returns-clause-ended c = ended_worlds_rest c.managers_are_right.ensures.done

pub returns-clause-told : goal.returns-clause-told
returns-clause-told c = last_rounds_tell

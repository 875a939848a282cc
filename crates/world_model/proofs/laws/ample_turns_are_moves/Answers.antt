use Rattle.world_model.proofs.MovesAreTurns.{ample_turns, turns_were_moves, ample_worlds_end}
use Rattle.world_model.proofs.laws.ample_turns_are_moves.Goals as goal

pub returns-clause-next : goal.returns-clause-next
returns-clause-next c = ample_turns

pub returns-clause-all : goal.returns-clause-all
returns-clause-all c = turns_were_moves

pub returns-clause-ended : goal.returns-clause-ended
returns-clause-ended c = ample_worlds_end

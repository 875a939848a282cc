use Rattle.world_model.proofs.MovesAreTurns.{no_standstill}
use Rattle.world_model.proofs.RoundsMoveSomebody.{rounds_move}
use Rattle.world_model.proofs.laws.rounds_move_somebody.Goals as goal

pub returns-clause-round : goal.returns-clause-round
returns-clause-round c = rounds_move c.entries_have_clients.ensures.members

pub returns-clause-run : goal.returns-clause-run
returns-clause-run c = no_standstill c.turns_keep_worlds_flowing.ensures.first c.turns_keep_worlds_flowing.ensures.all (rounds_move c.entries_have_clients.ensures.members)

use Rattle.tile_queues.proofs.Keeps.{takes}
use Rattle.tile_queues.proofs.ends.LaneOut.take.Goals as goal

pub pop_as-requires-clause-rule : goal.pop_as-requires-clause-rule
pop_as-requires-clause-rule g c = (takes _ _ c.args.self.now.takes, λ _ _ _ _. tt)

use Rattle.tile_queues.proofs.Keeps.{begins}
use Rattle.tile_queues.proofs.lanes.new_line.Goals as goal

pub ruled-requires-clause-rule : goal.ruled-requires-clause-rule
ruled-requires-clause-rule g c = begins

use Rattle.crossbeam_queue.specs.Passes.{ruled_capacity}
use Rattle.tile_queues.proofs.lanes.lane.Given as goal

abbrev pub ghosts-part : goal.ghosts-part
ghosts-part g a = record { depth = ruled_capacity a.line.now }

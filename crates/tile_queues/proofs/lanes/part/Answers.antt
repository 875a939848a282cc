use Rattle.tile_queues.proofs.Keeps.{parts}
use Rattle.tile_queues.proofs.lanes.part.Goals as goal

pub another-requires-clause-rule : goal.another-requires-clause-rule
another-requires-clause-rule g c = parts _ g.D.Depth.depth _ c.requires.new.0 c.requires.new.1

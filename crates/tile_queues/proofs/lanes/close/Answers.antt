use Rattle.tile_queues.proofs.Keeps.{joins}
use Rattle.tile_queues.proofs.lanes.close.Goals as goal

pub absorb-requires-clause-rule : goal.absorb-requires-clause-rule
absorb-requires-clause-rule g c = joins _ _ _ _ c.args.a.sends c.args.b.takes

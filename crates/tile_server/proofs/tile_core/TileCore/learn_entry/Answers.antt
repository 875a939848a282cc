use Rattle.std.proofs.Common.{refl}
use Rattle.tile_server.proofs.TileSteps.{learnt_step}
use Rattle.tile_server.proofs.tile_core.TileCore.learn_entry.Goals as goal

pub returns-then-not-self : goal.returns-then-not-self
returns-then-not-self c = learnt_step c.args.self.now _ c.requires.undue c.requires.listens refl refl refl refl c.args.entry c.if-not-self.true c.learn.ensures

use Rattle.std.proofs.Common.{refl}
use Rattle.tile_server.proofs.TileSteps.{no_more_step}
use Rattle.tile_server.proofs.tile_core.TileCore.learn_no_more.Goals as goal

pub returns : goal.returns
returns c = no_more_step c.args.self.now _ c.requires.undue c.requires.listens refl refl refl refl c.learn_no_more.ensures.clients c.learn_no_more.ensures.step

use Rattle.std.proofs.Common.{refl}
use Rattle.tile_server.proofs.TileSteps.{closed_step}
use Rattle.tile_server.proofs.tile_core.TileCore.close.Goals as goal

pub returns : goal.returns
returns c parcel end = closed_step c.args.self.now _ c.args.client parcel refl c.requires end refl refl refl c.close.ensures.clients c.close.ensures.step

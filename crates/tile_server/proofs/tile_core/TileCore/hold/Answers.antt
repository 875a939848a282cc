use Rattle.std.proofs.Common.{refl}
use Rattle.tile_server.proofs.TileSteps.{held_step}
use Rattle.tile_server.proofs.tile_core.TileCore.hold.Goals as goal

pub returns : goal.returns
returns c parcel wait = held_step c.args.self.now _ c.args.client parcel refl c.requires.free wait refl refl refl c.hold.ensures

use Rattle.std.proofs.Common.{refl}
use Rattle.tile_server.proofs.TileSteps.{dropped_step}
use Rattle.tile_server.proofs.tile_core.TileCore.drop_parcel.Goals as goal

pub returns : goal.returns
returns c parcel more = dropped_step c.args.self.now _ c.args.client parcel refl c.requires.take c.requires.dropped more refl refl refl refl

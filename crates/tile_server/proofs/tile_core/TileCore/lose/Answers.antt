use Rattle.std.proofs.Common.{refl}
use Rattle.tile_server.proofs.TileSteps.{lost_step}
use Rattle.tile_server.proofs.tile_core.TileCore.lose.Goals as goal

pub returns : goal.returns
returns c parcel more =
    lost_step c.args.self.now _ c.args.client parcel refl c.requires.free more (record { decl = refl; clients = refl; layout = refl; tile = refl })
    (record { clients = refl; held = refl; closed = refl; known = refl; no_more = refl; log = refl }) refl

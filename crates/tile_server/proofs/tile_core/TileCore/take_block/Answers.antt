use Rattle.std.proofs.Common.{refl}
use Rattle.tile_server.proofs.PlainBlocks.{plain_work}
use Rattle.tile_server.proofs.TileSteps.{lost_step, work_no_end, worked_step}
use Rattle.tile_server.proofs.tile_core.TileCore.take_block.Goals as goal

pub returns-in-Ok : goal.returns-in-Ok
returns-in-Ok c =
    let a = c.in-Ok.ensures.alike in
    let w = c.in-Ok.ensures.worked in
    let parcel = c.args.parcel.now in
    worked_step c.args.self.now _ c.args.client parcel refl c.requires.free (plain_work parcel c.requires.plain) a.canvas (record { ledger = w.ledger; done = w.done; ignored = w.ignored }) a.frames a.short

pub returns-in-Err : goal.returns-in-Err
returns-in-Err c =
    let parcel = c.args.parcel.now in
    lost_step c.args.self.now _ c.args.client parcel refl c.requires.free (work_no_end parcel.act (plain_work parcel c.requires.plain)) c.in-Err.ensures.alike.canvas c.in-Err.ensures.ledger refl

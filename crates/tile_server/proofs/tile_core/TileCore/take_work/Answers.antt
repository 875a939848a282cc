use Rattle.std.proofs.Common.{refl}
use Rattle.tile_server.proofs.TileSteps.{lost_step, work_no_end, worked_step}
use Rattle.tile_server.proofs.tile_core.TileCore.take_work.Goals as goal

pub returns-in-Ok : goal.returns-in-Ok
returns-in-Ok c =
    let a = c.in-Ok.ensures.alike in
    let w = c.in-Ok.ensures.worked in
    worked_step c.args.self.now _ c.args.client c.args.parcel refl c.requires.free c.requires.work a.canvas (record { ledger = w.ledger; done = w.done; ignored = w.ignored }) a.frames a.short

pub returns-in-Err : goal.returns-in-Err
returns-in-Err c =
    lost_step c.args.self.now _ c.args.client c.args.parcel refl c.requires.free (work_no_end c.args.parcel.act c.requires.work) c.in-Err.ensures.alike.canvas c.in-Err.ensures.ledger refl

use Rattle.std.proofs.Common.{sym}
use Rattle.serial_render.proofs.TurnsOfClients.{way_first}
use Rattle.serial_render.proofs.progress.Progress.new.Goals as goal

pub returns-clause-way : goal.returns-clause-way
returns-clause-way c =
    let s = c.args.syncs.now in
    way_first s c.in_ok-new.field-0 c.new-2.result (c.in_ok-new.ensures.book s (sym c.len.ensures) (sym c.in_ok-decl.ensures.barriers) (sym c.in_ok-decl.ensures.semaphores)) c.new-2.ensures

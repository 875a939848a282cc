use Rattle.std.proofs.Common.{refl}
use Rattle.sync_manager.proofs.ManagerSteps.{dropped_step}
use Rattle.sync_manager.proofs.manager.ManagerCore.drop_request.Goals as goal

pub returns : goal.returns
returns c =
    let s = c.args.self.now in
    dropped_step s s c.note_taken.new.self c.args.client c.args.request c.requires.client refl refl refl refl refl c.note_taken.ensures c.requires.left c.requires.task refl (λ syncs a h. h)

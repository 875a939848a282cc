use Rattle.std.proofs.Common.{◌≡◌, IfOk, subst}
use Rattle.rc_base.specs.Drawing.Images.{frame_images}
use Rattle.rc_base.specs.Orders.Order.{default_order}
use Rattle.rc_base.specs.declared.scene.Scene.{Scene}
use Rattle.rc_base.specs.declared.sync.SyncLists.{SyncLists}
use Rattle.rc_base.proofs.WithinLimits.{few_commands}
use Rattle.order_model.specs.Report.{frame_count}
use Rattle.sort_last.specs.Runs.{serial_frames}
use Rattle.sort_last.proofs.ShortStreams.{all_short}
use Rattle.sort_last.proofs.last.render_last.Goals as goal

pub of-requires : goal.of-requires
of-requires g c = all_short c.args.scene.now.streams (few_commands c.args.scene.now c.requires.limits)

pub returns-clause-frames : goal.returns-clause-frames
returns-clause-frames g c =
    let stored = c.in_ok-stored.stored in
    subst (λ (s : Scene). IfOk c.render_judged.result (λ r. r.frames ≡ serial_frames s r.journal)) c.in_ok-stored.ensures
    (subst (λ (l : SyncLists). IfOk c.render_judged.result (λ r. r.frames ≡ frame_images stored (default_order l r.journal) (frame_count r.journal)))
    c.in_ok-survey.ensures.syncs c.render_judged.ensures.frames)

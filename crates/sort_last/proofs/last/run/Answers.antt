use Rattle.std.proofs.Common.{◌≡◌, ◌∙◌, List, sym, ap, subst}
use Rattle.rc_base.specs.Orders.Order.{default_journal, default_order}
use Rattle.rc_base.specs.Orders.Sync.{sync_lists_of}
use Rattle.rc_base.specs.Drawing.Images.{frame_images}
use Rattle.rc_base.specs.declared.sync.Entry.{Entry}
use Rattle.rc_base.specs.declared.sync.SyncLists.{SyncLists}
use Rattle.rc_base.proofs.WithinLimits.{clients_within, counts_some}
use Rattle.order_model.specs.Report.{frame_count}
use Rattle.serial_render.specs.Shown.{images_of}
use Rattle.serial_render.specs.Turns.{CanTakeTurns}
use Rattle.serial_render.proofs.ScenesTakeTurns.{takes_turns}
use Rattle.sort_last.specs.Layers.{composed_pixel}
use Rattle.sort_last.specs.Apart.{HaveFrames}
use Rattle.sort_last.proofs.ComposedLaw.{layers_compose}
use Rattle.sort_last.proofs.FramesOfRuns.{have_frames, default_legal, images_are}
use Rattle.sort_last.proofs.last.run.Goals as goal

pub turns_of-requires : goal.turns_of-requires
turns_of-requires g c = subst CanTakeTurns (sym c.requires.syncs) (takes_turns c.args.scene.now c.requires.within)

pub draw_frames-requires-clause-frames : goal.draw_frames-requires-clause-frames
draw_frames-requires-clause-frames g c κs _ =
    let s = c.args.scene.now in
    let journal = c.in_ok-journal.field-0.journal in
    let journal_is : journal ≡ default_journal (sync_lists_of s) = c.in_ok-journal.ensures.journal ∙ ap default_journal c.requires.syncs in
    let count_is = c.swap_count-count.ensures ∙ ap (λ (js : List Entry). frame_count js) (c.as_slice.ensures ∙ journal_is) in
    let legal = default_legal s (clients_within s c.requires.within.limits).0 (counts_some s c.requires.within.limits) in
    subst (HaveFrames s) (sym count_is) (have_frames s (default_journal (sync_lists_of s)) legal)

pub returns-clause-frames : goal.returns-clause-frames
returns-clause-frames g c =
    let s = c.args.scene.now in
    let journal = c.in_ok-journal.field-0.journal in
    let journal_is : journal ≡ default_journal (sync_lists_of s) = c.in_ok-journal.ensures.journal ∙ ap default_journal c.requires.syncs in
    let count_is = c.swap_count-count.ensures ∙ ap (λ (js : List Entry). frame_count js) c.as_slice.ensures in
    c.in_ok-frames.ensures ∙ ap (images_of s.decl (composed_pixel s)) count_is
    ∙ images_are layers_compose s (clients_within s c.requires.within.limits).0 (counts_some s c.requires.within.limits) c.requires.composable journal journal_is
    ∙ ap (λ (l : SyncLists). frame_images s (default_order l journal) (frame_count journal)) (sym c.requires.syncs)

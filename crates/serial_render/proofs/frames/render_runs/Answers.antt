use Rattle.std.proofs.Common.{◌≡◌, ℕ, ◌≤◌, ◌∙◌, List, ap, length, sym, subst}
use Rattle.rc_base.specs.Cluster.Tiles.{window_rect}
use Rattle.rc_base.specs.Drawing.Images.{frame_images}
use Rattle.rc_base.specs.Drawing.Serial.{frame_pixel}
use Rattle.rc_base.specs.Lists.{IsIn}
use Rattle.rc_base.specs.declared.scene.Decl.{Decl}
use Rattle.rc_base.specs.declared.sync.Entry.{Entry}
use Rattle.rc_base.specs.declared.sync.Name.{Name}
use Rattle.order_model.specs.Report.{frame_count}
use Rattle.serial_render.specs.Runs.{names_of_runs}
use Rattle.serial_render.specs.Shown.{IsPlayable, images_of, swaps_before}
use Rattle.serial_render.proofs.PermittedOrders.{permitted_playable}
use Rattle.serial_render.proofs.PlayedOrders.{frames_at_end}
use Rattle.serial_render.proofs.SwapsOfJournals.{swaps_within}
use Rattle.serial_render.proofs.frames.render_runs.Goals as goal

pub play-requires-clause-playable : goal.play-requires-clause-playable
play-requires-clause-playable g c =
    let s = g.S.SceneStore.scene c.args.scene.now in
    subst (IsPlayable s) (sym c.runs.ensures) (permitted_playable s c.args.journal.now c.args.order.now c.requires.legal c.requires.permitted)

pub show_up_to-requires : goal.show_up_to-requires
show_up_to-requires g c = c.in_ok-device.ensures.shown.rect ∙ ap (λ (d : Decl). window_rect d.width d.height) (sym c.decl.ensures)

pub returns : goal.returns
returns g c =
    let s = g.S.SceneStore.scene c.args.scene.now in
    let o = names_of_runs c.runs.result.now in
    let journal = c.args.journal.now in
    let count = c.swap_count-count.result in
    let is : count ≡ frame_count journal = c.swap_count-count.ensures ∙ ap (λ (js : List Entry). frame_count js) c.as_slice.ensures in
    let old = c.in_ok-device.field-0.frames in
    let new = c.show_up_to.new.frames in
    let shown = c.in_ok-device.ensures.shown in
    let within = λ (n : Name) (i : IsIn n o).
    subst (λ (k : ℕ). swaps_before s n ≤ k) (sym is) (swaps_within s journal c.args.order.now c.requires.legal c.requires.permitted n (subst (λ (l : List Name). IsIn n l) c.runs.ensures i)) in
    frames_at_end s o c.in_ok-device.field-0.device old new count shown within c.in_ok-show_up_to.ensures.count
    (λ due. subst (λ (d : Decl). new ≡ images_of d (frame_pixel s o) (length new)) c.decl.ensures
    (c.in_ok-show_up_to.ensures.images (frame_pixel s o) (subst (λ (d : Decl). old ≡ images_of d (frame_pixel s o) (length old)) (sym c.decl.ensures) shown.frames_are) due))
    ∙ ap (frame_images s o) is
    ∙ ap (λ (l : List Name). frame_images s l (frame_count journal)) c.runs.ensures

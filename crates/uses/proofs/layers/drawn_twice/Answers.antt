use Rattle.std.proofs.Common.{List, ap, sym, ◌∙◌}
use Rattle.rc_base.specs.Drawing.Images.{frame_images}
use Rattle.rc_base.specs.declared.sync.Entry.{Entry}
use Rattle.rc_base.specs.declared.sync.Name.{Name}
use Rattle.order_model.specs.Report.{frame_count}
use Rattle.sort_last.specs.Runs.{serial_frames}
use Rattle.uses.proofs.layers.drawn_twice.Goals as goal

pub returns : goal.returns
returns g c =
    let scene = c.args.scene.now in
    c.in_ok-apart.ensures.frames ∙ ap (λ (journal : List Entry). serial_frames scene journal) (c.in_ok-apart.ensures.journal ∙ sym c.in_ok-journal.ensures.journal)
    ∙ ap (λ (order : List Name). frame_images scene order (frame_count c.in_ok-journal.journal)) (sym c.in_ok-journal.ensures.order) ∙ sym c.in_ok-together.ensures

use Rattle.std.proofs.Common.{◌≡◌, List, Result, Ok, Err, ap, ◌∙◌}
use Rattle.std.specs.Prelude.{IfOk}
use Rattle.rc_base.specs.Drawing.Images.{frame_images}
use Rattle.rc_base.specs.Orders.Order.{default_journal, default_order}
use Rattle.rc_base.specs.Orders.Sync.{sync_lists_of}
use Rattle.rc_base.specs.declared.image.Image.{Image}
use Rattle.rc_base.specs.declared.out_of_memory.OutOfMemory.{OutOfMemory}
use Rattle.rc_base.specs.declared.scene.Scene.{Scene}
use Rattle.rc_base.specs.declared.sync.Entry.{Entry}
use Rattle.rc_base.specs.declared.sync.Name.{Name}
use Rattle.order_model.specs.Report.{frame_count}
use Rattle.serial_render.specs.Shown.{frames_of}
use Rattle.show_fronts.specs.Laws.{serial_frames, SerialFramesStay}
use Rattle.uses.specs.Program.{AreFirstOf}
use Rattle.uses.proofs.program.first_frames_of.Goals as goal

gives : (r : Result (List Image) OutOfMemory) (s : Scene) (journal : List Entry) (order : List Name) → SerialFramesStay → IfOk r (λ frames. frames ≡ frames_of s journal order)
    → journal ≡ default_journal (sync_lists_of s) → order ≡ default_order (sync_lists_of s) journal → IfOk r (AreFirstOf s)
gives (Ok frames) s journal order stay are default named = λ whole n well is.
    are ∙ ap (λ (names : List Name). frame_images s names (frame_count journal)) named
    ∙ ap (λ (js : List Entry). frame_images s (default_order (sync_lists_of s) js) (frame_count js)) default
    ∙ ap serial_frames is ∙ stay whole n well
gives (Err e) s journal order stay are default named = tt

pub returns : goal.returns
returns c =
    gives c.render_order.result c.args.scene.now c.in_ok-journal.journal c.in_ok-journal.order c.serial_frames_stay.ensures c.render_order.ensures
    c.in_ok-journal.ensures.journal c.in_ok-journal.ensures.order

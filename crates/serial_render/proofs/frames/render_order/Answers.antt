use Rattle.std.proofs.Common.{◌≡◌, ◌∙◌, List, subst, sym}
use Rattle.std.specs.Prelude.{IfOk}
use Rattle.rc_base.specs.Orders.Order.{IsPermitted}
use Rattle.rc_base.specs.Orders.Sync.{sync_lists_of}
use Rattle.rc_base.specs.declared.image.Image.{Image}
use Rattle.rc_base.specs.declared.sync.Name.{Name}
use Rattle.serial_render.specs.Shown.{frames_of}
use Rattle.serial_render.proofs.frames.render_order.Goals as goal

pub render_runs-requires-clause-permitted : goal.render_runs-requires-clause-permitted
render_runs-requires-clause-permitted c =
    subst (IsPermitted (sync_lists_of c.args.scene.now) c.args.journal.now) (sym (c.in_ok-runs.ensures ∙ c.as_slice.ensures)) c.requires.permitted

pub returns : goal.returns
returns c =
    subst (λ (l : List Name). IfOk c.render_runs.result (λ (frames : List Image). frames ≡ frames_of c.args.scene.now c.args.journal.now l))
    (c.in_ok-runs.ensures ∙ c.as_slice.ensures) c.render_runs.ensures

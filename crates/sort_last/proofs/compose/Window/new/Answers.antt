use Rattle.std.proofs.Common.{◌∙◌, ap, sym, length}
use Rattle.rc_base.specs.Cluster.Tiles.{is_in_rect, window_rect}
use Rattle.rc_base.specs.Contexts.Context.{default_context}
use Rattle.rc_base.specs.declared.scene.Decl.{Decl}
use Rattle.rc_base.specs.declared.window.Rect.{Rect}
use Rattle.gl_context.proofs.OneMoreCommand.{begins}
use Rattle.sort_last.proofs.FramesOfRuns.{blank_frame}
use Rattle.sort_last.proofs.compose.Window.new.Goals as goal

pub returns-clause-composed : goal.returns-clause-composed
returns-clause-composed c =
    let s = c.args.scene.now in
    let d = c.in_ok-new-2.ensures in
    record {
      clears = c.in_ok-new.ensures ∙ ap default_context c.decl.ensures ∙ sym (begins s 0);
      rect = d.rect ∙ c.window.ensures.sides ∙ ap (λ (e : Decl). window_rect e.width e.height) c.decl-2.ensures;
      holds = λ x y inside. d.blank x y (ap (λ (r : Rect). is_in_rect r x y) (sym d.rect) ∙ inside) ∙ sym (blank_frame s x y);
      count = ap length c.new-3.ensures;
      shown = c.new-3.ensures;
    }

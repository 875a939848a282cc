use Rattle.std.proofs.Common.{ap, sym, subst, ◌∙◌}
use Rattle.rc_base.specs.Cluster.Tiles.{window_rect}
use Rattle.rc_base.specs.Contexts.Context.{default_context}
use Rattle.rc_base.specs.declared.scene.Decl.{Decl}
use Rattle.gl_context.proofs.OneMoreCommand.{begins}
use Rattle.sort_last.specs.Players.{IsBlankSheet}
use Rattle.sort_last.proofs.DrawnFrames.{no_frames}
use Rattle.sort_last.proofs.player.Player.new.Goals as goal

pub returns : goal.returns
returns c client = record {
  context = c.in_ok-new.ensures ∙ ap default_context c.decl.ensures ∙ sym (begins c.args.scene.now client);
  sheet = subst (λ (d : Decl). IsBlankSheet (window_rect d.width d.height) c.in_ok-new-2.field-0) c.decl-2.ensures c.in_ok-new-2.ensures;
  layers = no_frames c.args.scene.now client 0 _;
}

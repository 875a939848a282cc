use Rattle.std.proofs.Common.{subst}
use Rattle.rc_base.specs.declared.window.Rect.{Rect}
use Rattle.raster.specs.Clips.{IsPartWhere, is_let_through}
use Rattle.draw_device.proofs.grid.Extent.prepare.Goals as goal

pub returns : goal.returns
returns c = record {
  planned = c.plan_of.ensures;
  within = subst (λ (r : Rect). IsPartWhere r c.drawn_part-part.result (is_let_through c.args.state.now)) c.rect.ensures c.drawn_part-part.ensures;
  beside = c.surrounds_of.ensures;
  products = c.identities_of.ensures;
}

use Rattle.std.proofs.Common.{sym, subst}
use Rattle.rc_base.specs.declared.window.Rect.{Rect}
use Rattle.draw_device.specs.Active.{FitAmong, IsLayerOf}
use Rattle.draw_device.specs.Devices.{pixel_of, rect_size}
use Rattle.uses.proofs.drawing.put_before.Goals as goal

pub take_nearer-requires-clause-fit : goal.take_nearer-requires-clause-fit
take_nearer-requires-clause-fit c = subst (λ (r : Rect). FitAmong (rect_size r) c.copy_active.new.layer) c.requires.rect c.in_ok-copy_active.ensures.fit

pub returns : goal.returns
returns c = c.take_nearer.ensures.nearer (pixel_of c.args.drawn.now) (subst (λ (r : Rect). IsLayerOf r (pixel_of c.args.drawn.now) c.copy_active.new.layer) c.requires.rect c.in_ok-copy_active.ensures)

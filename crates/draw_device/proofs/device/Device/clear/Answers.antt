use Rattle.rc_base.specs.Drawing.PixelStep.{clear_step}
use Rattle.draw_device.specs.Pixels.{pixels_of}
use Rattle.draw_device.proofs.Places.{view_takes}
use Rattle.draw_device.proofs.device.Device.clear.Goals as goal

pub returns-clause-drawn : goal.returns-clause-drawn
returns-clause-drawn c privates shareds =
    view_takes (clear_step c.args.state.now c.args.mask) c.self.inside.grid.extent c.clear.new.self.extent (pixels_of c.self.inside.grid.colors.items c.self.inside.grid.depths.items)
    (pixels_of c.clear.new.self.colors.items c.clear.new.self.depths.items) _ c.self.view_is c.clear.ensures.extent c.clear.ensures.drawn

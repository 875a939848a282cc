use Rattle.std.proofs.Common.{◌∙◌, ap, sym}
use Rattle.rc_base.specs.declared.window.Pixel.{Pixel}
use Rattle.draw_device.specs.Devices.{DeviceView}
use Rattle.draw_device.specs.Pixels.{pixel_at, color_at}
use Rattle.draw_device.proofs.Lists.{pixel_in}
use Rattle.draw_device.proofs.device.Device.colors.Goals as goal

pub returns-clause-each : goal.returns-clause-each
returns-clause-each c k =
    let g = c.self.inside.grid in
    (λ i. color_at (c.as_slice.ensures.value i) k) ∙ ap (λ (p : Pixel). p.color) (sym (pixel_in g.colors.items g.depths.items k g.deep))
    ∙ ap (λ (d : DeviceView). (pixel_at d.pixels k).color) c.self.view_is

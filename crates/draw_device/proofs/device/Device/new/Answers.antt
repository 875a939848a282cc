use Rattle.std.proofs.Common.{◌≡◌, ◌∙◌, ap}
use Rattle.draw_device.specs.Devices.{DeviceView}
use Rattle.draw_device.specs.Grids.{blank_view}
use Rattle.draw_device.specs.declared.grid.Extent.{Extent}
use Rattle.draw_device.proofs.Places.{blank_in}
use Rattle.draw_device.proofs.device.Device.new.Goals as goal

pub returns-clause-rect : goal.returns-clause-rect
returns-clause-rect c =
    let is : c.filled.result ≡ blank_view c.of.result = c.filled.ensures ∙ ap (λ (g : Extent). blank_view g) c.in_ok-room.ensures in
    ap (λ (d : DeviceView). d.rect) is ∙ c.of.ensures.rect

pub returns-clause-blank : goal.returns-clause-blank
returns-clause-blank c =
    let is : c.filled.result ≡ blank_view c.of.result = c.filled.ensures ∙ ap (λ (g : Extent). blank_view g) c.in_ok-room.ensures in
    blank_in c.of.result c.filled.result c.args.rect is c.of.ensures.rect

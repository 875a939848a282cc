use Rattle.draw_device.specs.Pixels.{pixels_of}
use Rattle.draw_device.proofs.NearerPixels.{view_blank}
use Rattle.draw_device.proofs.device.Device.blank.Goals as goal

pub returns-clause-blank : goal.returns-clause-blank
returns-clause-blank c x y inside =
    let g = c.self.inside.grid in
    let h = c.blank.new.self in
    let e = c.blank.ensures in
    view_blank g.extent h.extent (pixels_of g.colors.items g.depths.items) (pixels_of h.colors.items h.depths.items) _ c.args.run c.self.view_is e.extent e.below e.above x y
    e.among (c.requires.beside x y inside)

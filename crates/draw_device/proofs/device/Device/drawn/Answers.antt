use Rattle.std.proofs.Common.{arith}
use Rattle.draw_device.specs.Pixels.{pixels_of}
use Rattle.draw_device.proofs.NearerPixels.{view_far}
use Rattle.draw_device.proofs.device.Device.drawn.Goals as goal

pub returns-clause-beside : goal.returns-clause-beside
returns-clause-beside c x y inside beside =
    let g = c.self.inside.grid in
    let e = c.drawn.ensures in
    view_far g.extent (pixels_of g.colors.items g.depths.items) _ c.drawn.result c.self.view_is e.below (λ k le lt. e.above k le (omega (arith, lt, g.full))) x y inside beside

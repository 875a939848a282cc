use Rattle.std.proofs.Common.{◌≡◌, length, arith, rules}
use Rattle.draw_device.specs.Active.{active_at, active_run}
use Rattle.draw_device.specs.Devices.{rect_size}
use Rattle.draw_device.specs.Pixels.{pixels_of}
use Rattle.draw_device.proofs.NearerPixels.{view_nearer}
use Rattle.draw_device.proofs.device.Device.take_nearer.Goals as goal

pub take_nearer-requires : goal.take_nearer-requires
take_nearer-requires c =
    let g = c.self.inside.grid in
    let all : length g.colors.items ≡ rect_size c.args.self.now.rect = search rules in
    record { deep = c.requires.fit.deep; room = omega (arith, all, c.requires.fit.room) }

pub returns-clause-nearer : goal.returns-clause-nearer
returns-clause-nearer c picture layer x y inside =
    let g = c.self.inside.grid in
    let h = c.take_nearer.new.self in
    let e = c.take_nearer.ensures in
    let a = c.args.layer.now in
    view_nearer g.extent h.extent (pixels_of g.colors.items g.depths.items) (pixels_of h.colors.items h.depths.items) _ (active_run a) c.self.view_is e.extent e.below e.above x y
    picture (active_at a) e.among (layer.among x y inside) (λ b. omega (arith, c.requires.near x y inside, layer.beside x y inside b))

use Rattle.std.proofs.Common.{◌≡◌, length, arith, rules}
use Rattle.draw_device.specs.Devices.{rect_size}
use Rattle.draw_device.proofs.NearerPixels.{view_layer}
use Rattle.draw_device.proofs.device.Device.copy_active.Goals as goal

pub copy_run-requires-clause-room : goal.copy_run-requires-clause-room
copy_run-requires-clause-room c =
    let g = c.self.inside.grid in
    let all : length g.colors.items ≡ rect_size c.args.self.now.rect = search rules in
    omega (arith, all, c.requires.inside)

pub returns : goal.returns
returns c =
    let g = c.self.inside.grid in
    let all : length g.colors.items ≡ rect_size c.args.self.now.rect = search rules in
    view_layer g _ c.args.run c.copy_run.new.self c.self.view_is all c.in_ok-copy_run.ensures c.requires.beside

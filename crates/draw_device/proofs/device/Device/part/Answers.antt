use Rattle.std.proofs.Common.{◌≡◌, ◌∙◌, ap, length, rules}
use Rattle.draw_device.specs.Devices.{rect_size}
use Rattle.draw_device.proofs.Lists.{length_pixels}
use Rattle.draw_device.proofs.device.Device.part.Goals as goal

pub returns-clause-size : goal.returns-clause-size
returns-clause-size c =
    let g = c.self.inside.grid in
    let all : length g.colors.items ≡ rect_size c.args.self.now.rect = search rules in
    ap length c.in_ok-copy.ensures ∙ length_pixels g.colors.items g.depths.items g.deep ∙ all

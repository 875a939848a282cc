use Rattle.std.proofs.Common.{◌*◌, ◌∙◌, ap, replicate}
use Rattle.rc_base.specs.Colors.{rgba}
use Rattle.rc_base.specs.Drawing.Window.{depth_most}
use Rattle.draw_device.specs.Pixels.{pixels_of}
use Rattle.draw_device.proofs.Lists.{pixels_alike}
use Rattle.draw_device.proofs.room.Room.fill.Goals as goal

pub returns-clause-blank : goal.returns-clause-blank
returns-clause-blank c =
    let n = c.args.self.extent.width * c.args.self.extent.height in
    let colors = c.fill_up.ensures ∙ ap (λ k. replicate k (rgba 0 0 0 0)) c.count.ensures in
    let depths = c.fill_up-2.ensures ∙ ap (λ k. replicate k depth_most) c.count-2.ensures in
    (λ i. pixels_of (colors i) (depths i)) ∙ pixels_alike n (rgba 0 0 0 0) depth_most

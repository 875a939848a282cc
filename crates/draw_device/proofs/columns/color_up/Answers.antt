use Rattle.std.proofs.Common.{◌+◌, pos}
use Rattle.draw_device.proofs.columns.color_up.Goals as goal

pub returns : goal.returns
returns c =
    let r = c.args.run in
    c.color.ensures.up c.args.tri.now.v (pos (r.left + r.across)) (pos (r.bottom + c.args.y)) (1 + r.across + c.args.y) c.requires.ramp c.requires.few
    (rw c.args.tri.now.area_is at c.args.tri.now.positive) c.requires.inside

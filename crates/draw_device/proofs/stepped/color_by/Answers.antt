use Rattle.std.proofs.Common.{◌+◌, pos}
use Rattle.draw_device.proofs.stepped.color_by.Goals as goal

pub returns : goal.returns
returns c =
    c.color.ensures.across c.args.tri.now.v (pos (c.args.run.left + c.args.x)) (pos c.args.run.row) (1 + c.args.x + c.args.run.up) c.requires.ramp c.requires.place.few
    (rw c.args.tri.now.area_is at c.args.tri.now.positive) c.requires.place.inside

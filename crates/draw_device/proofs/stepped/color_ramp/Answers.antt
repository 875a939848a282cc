use Rattle.std.proofs.Common.{pos}
use Rattle.draw_device.proofs.Steps.{color_start}
use Rattle.draw_device.proofs.stepped.color_ramp.Goals as goal

pub returns : goal.returns
returns c v p =
    let r = c.args.run in
    color_start v r.left r.bottom r.row r.up r.from _ _ _ c.from.ensures c.from-2.ensures r.above (c.ramp.ensures v (pos r.left) (pos r.bottom) p)

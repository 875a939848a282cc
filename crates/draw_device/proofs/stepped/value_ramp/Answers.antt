use Rattle.std.proofs.Common.{pos}
use Rattle.draw_device.proofs.Steps.{value_start}
use Rattle.draw_device.proofs.stepped.value_ramp.Goals as goal

pub returns : goal.returns
returns c v f p =
    let r = c.args.run in
    value_start v f r.left r.bottom r.row r.up r.from _ _ _ c.from.ensures c.from-2.ensures r.above (c.ramp.ensures v (pos r.left) (pos r.bottom) f p)

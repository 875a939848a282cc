use Rattle.std.proofs.Common.{pos}
use Rattle.draw_device.proofs.ColumnsToPixels.{rise_start}
use Rattle.draw_device.proofs.columns.color_rise.Goals as goal

pub returns : goal.returns
returns c v p =
    let r = c.args.run in
    rise_start v r _ _ _ c.from.ensures c.from-2.ensures (c.rise.ensures v (pos r.left) (pos r.bottom) p)

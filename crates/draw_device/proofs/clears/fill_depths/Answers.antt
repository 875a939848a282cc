use Rattle.std.proofs.Common.{arith}
use Rattle.draw_device.proofs.Steps.{depth_more, depth_end}
use Rattle.draw_device.proofs.clears.fill_depths.Goals as goal

pub loop-x-preserved : goal.loop-x-preserved
loop-x-preserved c =
    let d = c.loop-x.invariant.done in
    let s = d.size in
    let order = c.requires.order in
    record {
      done = depth_more c.args.depth c.args.from c.loop-x.x _ _ d (omega arith) (omega arith);
    }

pub returns : goal.returns
returns c =
    let order = c.requires.order in
    let e = c.loop-x.auto.x-end order in
    depth_end c.args.depth c.args.from _ c.args.to _ _ (omega arith) c.loop-x.invariant.done

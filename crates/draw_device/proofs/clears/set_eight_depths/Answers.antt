use Rattle.std.proofs.Common.{◌+◌, arith}
use Rattle.draw_device.proofs.Steps.{depth_none, depth_more, depth_end}
use Rattle.draw_device.proofs.clears.set_eight_depths.Goals as goal

pub loop-k-init : goal.loop-k-init
loop-k-init c =
    let at = c.args.at in
    record { done = depth_end c.args.depth at at (at + 0) _ _ (omega arith) (depth_none c.args.depth at _) }

pub loop-k-preserved : goal.loop-k-preserved
loop-k-preserved c =
    let at = c.args.at in
    let k = c.loop-k.k in
    let d = c.loop-k.invariant.done in
    let s = d.size in
    let room = c.requires.room in
    record {
      done = depth_end c.args.depth at (at + k + 1) (at + (k + 1)) _ _ (omega arith) (depth_more c.args.depth at (at + k) _ _ d (omega arith) (omega arith));
    }

pub returns : goal.returns
returns c =
    let e = c.loop-k.auto.k-end in
    depth_end c.args.depth c.args.at (c.args.at + c.loop-k.k) (c.args.at + 8) _ _ (omega arith) c.loop-k.invariant.done

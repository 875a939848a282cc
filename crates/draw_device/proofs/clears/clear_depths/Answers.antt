use Rattle.std.proofs.Common.{◌+◌, arith}
use Rattle.draw_device.proofs.Steps.{depth_none, depth_join}
use Rattle.draw_device.proofs.clears.clear_depths.Goals as goal

pub depth_blocks-init : goal.depth_blocks-init
depth_blocks-init c = record { low = omega arith; high = c.requires.order; done = depth_none c.args.depth c.args.from _ }

pub depth_blocks-preserved : goal.depth_blocks-preserved
depth_blocks-preserved c =
    let i = c.depth_blocks.invariant in
    let t = c.depth_blocks-test.true in
    record {
      low = omega (arith, i.low);
      high = omega (arith, i.high, t);
      done = depth_join c.args.depth c.args.from c.depth_blocks.x (c.depth_blocks.x + 8) _ _ _ i.low (omega arith) i.done c.set_eight_depths.ensures;
    }

pub returns : goal.returns
returns c =
    let i = c.depth_blocks.invariant in
    depth_join c.args.depth c.args.from c.depth_blocks.x c.args.to _ _ _ i.low i.high i.done c.fill_depths.ensures

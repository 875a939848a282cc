use Rattle.std.proofs.Common.{sym}
use Rattle.rc_base.specs.Drawing.Touch.{touches}
use Rattle.rc_base.specs.declared.state.Effect.TheVariants as eff
use Rattle.uses.proofs.Buckets.{are_sent}
use Rattle.uses.proofs.boxes.bucket.Goals as goal

pub returns : goal.returns
unfolding touches
returns c =
    are_sent c.args.layout.now c.args.state.now (eff.Block c.args.block.now) c.window_rect-window.result c.block_box.result c.met.result
    c.requires c.touched_pixels_lie_in_the_box.ensures.tiles (sym c.window_rect-window.ensures) c.block_box.ensures.tiles c.met.ensures

use Rattle.rc_base.specs.declared.state.Effect.TheVariants as eff
use Rattle.bounds_bucket.proofs.BoxTiles.{touched_by, tiles_by}
use Rattle.bounds_bucket.proofs.boxes.block_box.Goals as goal

pub object_box-requires : goal.object_box-requires
object_box-requires c = c.is_cut.ensures.late c.if-is_cut.true

pub window_box-requires : goal.window_box-requires
window_box-requires c = c.is_cut.ensures.early c.if-is_cut.false

pub returns-then-is_cut : goal.returns-then-is_cut
returns-then-is_cut c =
    let s = c.args.state.now in
    let block = c.args.block.now in
    let law = c.touched_pixels_lie_in_the_box.ensures.pixels in
    record {
      exact = c.object_box.ensures;
      touched = touched_by s (eff.Block block) c.args.window c.object_box.result (law s (eff.Block block)) c.object_box.ensures;
      tiles = tiles_by s (eff.Block block) c.args.window c.object_box.result c.object_box.ensures;
    }

pub returns : goal.returns
returns c =
    let s = c.args.state.now in
    let block = c.args.block.now in
    let law = c.touched_pixels_lie_in_the_box.ensures.pixels in
    record {
      exact = c.window_box.ensures;
      touched = touched_by s (eff.Block block) c.args.window c.window_box.result (law s (eff.Block block)) c.window_box.ensures;
      tiles = tiles_by s (eff.Block block) c.args.window c.window_box.result c.window_box.ensures;
    }

use Rattle.std.proofs.Common.{subst}
use Rattle.std.specs.declared.option.Option.{Option}
use Rattle.rc_base.specs.Cluster.Tiles.{kept_corners}
use Rattle.rc_base.specs.declared.state.Effect.TheVariants as eff
use Rattle.bounds_bucket.specs.Extents.{Spans}
use Rattle.bounds_bucket.specs.declared.extent.Extent.{Extent}
use Rattle.bounds_bucket.proofs.BoxTiles.{box_if_any, block_boxed, block_unboxed}
use Rattle.bounds_bucket.proofs.boxes.window_box.Goals as goal

pub returns : goal.returns
returns c =
    let s = c.args.state.now in
    let block = c.args.block.now in
    let window = c.args.window in
    let spans = subst (λ (o : Option Extent). Spans (kept_corners s block) o) c.in-Some.is c.block_extent.ensures in
    box_if_any s (eff.Block block) window c.scissored.result c.some_rect.result
    (block_boxed s block c.in-Some.extent window c.centred.result c.part_in.result c.scissored.result c.requires spans c.centred.ensures c.part_in.ensures c.scissored.ensures) c.some_rect.ensures

pub returns-in_default : goal.returns-in_default
returns-in_default c =
    let s = c.args.state.now in
    let block = c.args.block.now in
    block_unboxed s block c.args.window c.requires (subst (λ (o : Option Extent). Spans (kept_corners s block) o) c.in_default.is c.block_extent.ensures)

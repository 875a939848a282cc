use Rattle.std.specs.List.{flat_map}
use Rattle.order_model.specs.Report.{order_line, tile_order}
use Rattle.run_words.proofs.ClientLines.{lines_more}
use Rattle.run_words.proofs.report.order_lines.Goals as goal

pub loop-tile-preserved : goal.loop-tile-preserved
loop-tile-preserved c =
    let more = lines_more (λ tile. flat_map (order_line tile) (tile_order c.args.kept.now tile)) c.loop-tile.tile in
    cc (more, c.in_ok-recorded_lines.ensures, c.in_ok-append.ensures, c.loop-tile.invariant)

use Rattle.std.specs.Prelude.{slice_index_or}
use Rattle.client_issue.specs.Cores.{no_tally}
use Rattle.run_words.specs.Reports.{line_of_tile}
use Rattle.run_words.proofs.ClientLines.{lines_more}
use Rattle.run_words.proofs.report.tile_lines.Goals as goal

pub loop-tile-preserved : goal.loop-tile-preserved
loop-tile-preserved c =
    let more = lines_more (λ tile. line_of_tile tile (slice_index_or c.args.tallies.now tile no_tally)) c.loop-tile.tile in
    cc (more, c.in_ok-line.ensures, c.in_ok-extend_from_slice.ensures, c.loop-tile.invariant)

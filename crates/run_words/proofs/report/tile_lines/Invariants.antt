use Rattle.std.proofs.Common.{◌≡◌}
use Rattle.std.specs.Prelude.{slice_index_or}
use Rattle.std.specs.List.{flat_map, range_with_len}
use Rattle.client_issue.specs.Cores.{no_tally}
use Rattle.run_words.specs.Reports.{line_of_tile}
use Rattle.run_words.proofs.report.tile_lines.Given as goal

abbrev pub invariant-loop-tile : goal.invariant-loop-tile
invariant-loop-tile l = l.lines ≡ flat_map (λ tile. line_of_tile tile (slice_index_or l.tallies tile no_tally)) (range_with_len 0 l.tile)

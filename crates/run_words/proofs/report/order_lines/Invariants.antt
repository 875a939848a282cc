use Rattle.std.proofs.Common.{◌≡◌}
use Rattle.std.specs.List.{flat_map, range_with_len}
use Rattle.order_model.specs.Report.{order_line, tile_order}
use Rattle.run_words.proofs.report.order_lines.Given as goal

abbrev pub invariant-loop-tile : goal.invariant-loop-tile
invariant-loop-tile l = l.lines ≡ flat_map (λ tile. flat_map (order_line tile) (tile_order l.kept tile)) (range_with_len 0 l.tile)

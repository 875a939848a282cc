use Rattle.tile_queues.proofs.Named.{grid_law}
use Rattle.tile_queues.proofs.laws.named_rows_and_columns_are_a_grid.Goals as goal

pub returns : goal.returns
returns g c = grid_law

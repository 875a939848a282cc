use Rattle.std.proofs.Common.{refl}
use Rattle.rc_base.specs.Cluster.Tiles.{tile_pixels}
use Rattle.worked_examples.proofs.tiles.boundaries_are_rounded_down.Goals as goal

pub returns : goal.returns
unfolding tile_pixels
returns c = record { columns = refl; rows = refl; last = refl; not_left_of_it = refl }

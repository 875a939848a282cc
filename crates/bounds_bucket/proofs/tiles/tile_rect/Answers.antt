use Rattle.bounds_bucket.proofs.BitSets.{rectangle_has}
use Rattle.bounds_bucket.proofs.tiles.tile_rect.Goals as goal

pub returns-clause-pixels : goal.returns-clause-pixels
returns-clause-pixels c x y = rectangle_has c.args.layout.now c.args.tile x y c.rectangle.result c.rectangle.ensures

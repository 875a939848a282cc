use Rattle.bounds_bucket.proofs.OneTile.{each_pixel}
use Rattle.bounds_bucket.proofs.law.each_pixel_has_one_tile.Goals as goal

pub returns : goal.returns
returns c = each_pixel

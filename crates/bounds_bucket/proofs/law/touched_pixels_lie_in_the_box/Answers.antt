use Rattle.std.specs.Prelude.{pos}
use Rattle.bounds_bucket.proofs.TouchedInBox.{touched}
use Rattle.bounds_bucket.proofs.BoxMeetsTile.{box_meets}
use Rattle.bounds_bucket.proofs.law.touched_pixels_lie_in_the_box.Goals as goal

pub returns-clause-pixels : goal.returns-clause-pixels
returns-clause-pixels c = touched c.cover_lies_in_bounds.ensures

pub returns-clause-tiles : goal.returns-clause-tiles
returns-clause-tiles c l s effect tile x y inside here = box_meets l s effect tile x y inside (touched c.cover_lies_in_bounds.ensures s effect (pos x) (pos y) here)

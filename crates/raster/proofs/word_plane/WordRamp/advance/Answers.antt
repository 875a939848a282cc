use Rattle.std.proofs.Common.{pos, ◌+ℤ◌, refl}
use Rattle.raster.proofs.WordQuotients.{word_quotient_add, word_quotient_same}
use Rattle.raster.proofs.Affine.{sum_next, across_same}
use Rattle.raster.proofs.word_plane.WordRamp.advance.Goals as goal

pub returns : goal.returns
returns c v x y f k r = record {
  short = r.short;
  at = word_quotient_same _ _ _ _ _ _ (sum_next v x y f) refl (word_quotient_add _ _ _ k 1 _ _ _ r.at r.across refl);
  across = word_quotient_same _ _ _ _ _ _ (across_same v x y (x +ℤ pos 1) y f) refl r.across;
}

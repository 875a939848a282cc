use Rattle.std.proofs.Common.{pos, ◌+ℤ◌, refl}
use Rattle.raster.proofs.WordQuotients.{word_quotient_same}
use Rattle.raster.proofs.Affine.{sum_there, across_same}
use Rattle.raster.proofs.word_plane.WordPlane.ramp.Goals as goal

pub returns : goal.returns
returns c v x y f p = record {
  short = p.short;
  at = word_quotient_same _ _ _ _ _ _ (sum_there v x y c.args.i c.args.j f) refl (c.word_moved-2.ensures _ _ _ _ (c.word_moved.ensures _ _ _ _ p.at p.across) p.up);
  across = word_quotient_same _ _ _ _ _ _ (across_same v x y (x +ℤ pos c.args.i) (y +ℤ pos c.args.j) f) refl p.across;
}

use Rattle.std.proofs.Common.{pos, ◌+ℤ◌, refl}
use Rattle.raster.proofs.ByteQuotients.{byte_quotient_same}
use Rattle.raster.proofs.Affine.{sum_there, up_same}
use Rattle.raster.proofs.byte_plane.BytePlane.rise.Goals as goal

pub returns : goal.returns
returns c v x y f p = record {
  bytes = p.bytes;
  at = byte_quotient_same _ _ _ _ _ _ (sum_there v x y c.args.i c.args.j f) refl (c.byte_moved-2.ensures _ _ _ _ (c.byte_moved.ensures _ _ _ _ p.at p.across) p.up);
  up = byte_quotient_same _ _ _ _ _ _ (up_same v x y (x +ℤ pos c.args.i) (y +ℤ pos c.args.j) f) refl p.up;
}

use Rattle.std.proofs.Common.{pos, ◌+ℤ◌, refl}
use Rattle.raster.proofs.ByteQuotients.{byte_quotient_add, byte_quotient_same}
use Rattle.raster.proofs.Affine.{sum_next, across_same, sum_over, up_same}
use Rattle.raster.proofs.byte_plane.ByteRamp.advance.Goals as goal

pub returns-clause-across : goal.returns-clause-across
returns-clause-across c v x y f k r = record {
  bytes = r.bytes;
  at = byte_quotient_same _ _ _ _ _ _ (sum_next v x y f) refl (byte_quotient_add _ _ _ k 1 _ _ _ r.at r.across refl);
  across = byte_quotient_same _ _ _ _ _ _ (across_same v x y (x +ℤ pos 1) y f) refl r.across;
}

pub returns-clause-up : goal.returns-clause-up
returns-clause-up c v x y f k r = record {
  bytes = r.bytes;
  at = byte_quotient_same _ _ _ _ _ _ (sum_over v x y f) refl (byte_quotient_add _ _ _ k 1 _ _ _ r.at r.up refl);
  up = byte_quotient_same _ _ _ _ _ _ (up_same v x y x (y +ℤ pos 1) f) refl r.up;
}

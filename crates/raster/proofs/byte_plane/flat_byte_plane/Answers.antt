use Rattle.std.proofs.Common.{◌≡◌, ℤ, pos, arith, sym, subst}
use Rattle.raster.specs.Planes.{IsFromTo}
use Rattle.raster.proofs.ByteQuotients.{byte_of}
use Rattle.raster.proofs.Flat.{byte_quotient_flat, byte_quotient_across, byte_quotient_up}
use Rattle.raster.proofs.byte_plane.flat_byte_plane.Goals as goal

pub returns : goal.returns
returns c v x y f h =
    let a = c.args.a in
    let byte = λ (z : ℤ) (e : z ≡ pos a). subst (IsFromTo (pos 0) (pos 255)) (sym e) (byte_of a c.ranges.a.fits) in
    record {
      bytes = (byte _ h.0, byte _ h.1, byte _ h.2);
      at = byte_quotient_flat v x y f a _ h (omega arith);
      across = byte_quotient_across v x y f _ h;
      up = byte_quotient_up v x y f _ h;
    }

use Rattle.std.proofs.Common.{refl}
use Rattle.raster.proofs.ByteQuotients.{byte_quotient_add, byte_quotient_times}
use Rattle.raster.proofs.byte_plane.byte_moved.Goals as goal

pub returns : goal.returns
returns c n area m k s t =
    byte_quotient_add n _ area k c.args.times c.args.at _ _ s (byte_quotient_times m area c.args.by c.args.times _ t refl) refl

use Rattle.std.proofs.Common.{refl, rules, to_z-of_z, w64, FitsSigned}
use Rattle.raster.proofs.ByteQuotients.{byte_quotient_same}
use Rattle.raster.proofs.quotients.byte_quotient.Goals as goal

pub returns : goal.returns
returns c =
    let f : FitsSigned w64 c.args.s.now.area = search rules in
    let e = to_z-of_z f in
    byte_quotient_same _ _ _ _ _ _ (to_z-of_z c.ranges.n) refl (c.narrowed.ensures _ _ c.word_quotient.ensures c.args.s.now.some c.args.s.now.small)

use Rattle.std.proofs.Common.{arith, pos, w64, FitsSigned}
use Rattle.std.proofs.lemmas.Int.{ints}
use Rattle.raster.proofs.LaneBits.{mask_is}
use Rattle.raster.proofs.lanes.bits_from_0.Goals as goal

pub returns : goal.returns
returns c =
    let f : FitsSigned w64 (pos 0) = omega (arith, ints) in
    mask_is (pos 0) c.args.v c.requires.lanes f c.requires.fit

use Rattle.std.proofs.Common.{arith, pos}
use Rattle.std.proofs.lemmas.Int.{ints}
use Rattle.raster.proofs.quotients.wide_low_parts.Goals as goal

pub returns : goal.returns
returns c = record { turns = pos 0; is = omega (arith, ints) }

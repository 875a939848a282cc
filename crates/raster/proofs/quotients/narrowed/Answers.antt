use Rattle.std.proofs.Common.{refl}
use Rattle.raster.proofs.WordQuotients.{byte_of_word}
use Rattle.raster.proofs.quotients.narrowed.Goals as goal

pub returns : goal.returns
returns c n area s some small = byte_of_word n area c.args.parts _ s some small refl

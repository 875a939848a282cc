use Rattle.std.proofs.Common.{arith, refl}
use Rattle.std.proofs.lemmas.Int.{ints}
use Rattle.raster.proofs.WordQuotients.{word_quotient_same}
use Rattle.raster.proofs.quotients.short_quotient.Goals as goal

pub returns-else-n-ge0 : goal.returns-else-n-ge0
returns-else-n-ge0 c =
    let s = c.requires.0 in
    let t = c.requires.1 in
    word_quotient_same _ _ _ _ _ _ (omega (arith, ints)) refl c.quotient_below.ensures

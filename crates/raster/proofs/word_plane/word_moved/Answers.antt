use Rattle.std.proofs.Common.{refl}
use Rattle.raster.proofs.WordQuotients.{word_quotient_add, word_quotient_times}
use Rattle.raster.proofs.word_plane.word_moved.Goals as goal

pub returns : goal.returns
returns c n area m k s t =
    rw c.from.ensures (word_quotient_add n _ area k c.args.times c.args.at _ _ s (word_quotient_times m area c.args.by c.args.times _ t refl) refl)

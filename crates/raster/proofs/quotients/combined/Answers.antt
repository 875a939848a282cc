use Rattle.std.proofs.Common.{refl}
use Rattle.raster.proofs.WordQuotients.{word_residue_add}
use Rattle.raster.proofs.quotients.combined.Goals as goal

pub returns : goal.returns
returns c x y s t = word_residue_add x y c.args.a c.args.b _ s t refl

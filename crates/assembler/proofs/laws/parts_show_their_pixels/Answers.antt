use Rattle.assembler.proofs.Pictures.{shows_pixels}
use Rattle.assembler.proofs.Shown.{parts_show}
use Rattle.assembler.proofs.laws.parts_show_their_pixels.Goals as goal

pub returns-clause-pixels : goal.returns-clause-pixels
returns-clause-pixels c = λ l parts pixels columns rows are show. shows_pixels l parts pixels columns rows are show

pub returns-clause-image : goal.returns-clause-image
returns-clause-image c = λ l parts columns rows are. parts_show l parts columns rows are

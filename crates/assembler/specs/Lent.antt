-- What an assembler is once its image is no longer read.
use Rattle.std.specs.Prelude.{◌≡◌, ⊤, Bool, Option, is_some}
use Rattle.std.specs.Borrow.{follows_so, MutBor, Fml}
use mathlib.Core.Option.{none}
use Rattle.rc_base.specs.declared.image.Image.{Image}
use Rattle.assembler.specs.Assembled.{shows}
use Rattle.assembler.specs.Assemblers.{image_in}
use Rattle.assembler.specs.declared.places.Assembler.{Assembler}
use Rattle.assembler.specs.contracts.places.Assembler.{the_row}

-- The call advanced the assembler, and then looked at its image: there is a result exactly where the advance completed a frame, and it is the image then.
-- A result lends the assembler, so this says what the assembler is once the loan is over, which is as the advance left it.
abbrev pub Looks : MutBor Assembler → (Bool → Assembler → Type 0) → Option Image → Fml
Looks a advances result =
    follows_so the_row the_row a.ghost_name none (λ _ _. ⊤) (λ after. advances (is_some result) after × (result ≡ shows (is_some result) (image_in after)))

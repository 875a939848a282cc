-- What callers say of bytes.
use Rattle.std.specs.Prelude.{ℕ, List, [], ◌∷◌, take}
use Rattle.rc_base.specs.Formats.Netpbm.{SpellsImage}
use Rattle.rc_base.specs.declared.command.Command.{Command}
use Rattle.rc_base.specs.declared.image.Image.{Image}
use Rattle.rc_base.specs.declared.list_command.ListCommand.{ListCommand}
use Rattle.rc_base.specs.declared.list_command.ListCommand.TheVariants.{Plain, NewList, EndList, CallList}

-- no front of the bytes is an image
abbrev pub BeginsNoImage : List ℕ → Type 0
BeginsNoImage bytes = (n : ℕ) (m : Image) → SpellsImage (take n bytes) m → ⊥

-- List 2 calls list 1, which is recorded again before list 2 is called.
abbrev pub recorded_anew : Command → Command → List ListCommand
recorded_anew first last =
    NewList 1 ∷ Plain first ∷ EndList ∷ NewList 2 ∷ CallList 1 ∷ EndList ∷ NewList 1 ∷ Plain last ∷ EndList ∷ CallList 2 ∷ []

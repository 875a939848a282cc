-- Numbers and lists that are read from the front.
use Rattle.std.specs.Prelude.{List, [], ◌∷◌, ◌++◌, ℕ, ℤ, Option, Some, None}
use Rattle.rc_base.specs.declared.command.NumberRange.{NumberRange}
use Rattle.scene_text.specs.Text.Read.{reads_as}

-- the number of the first word, in its range
abbrev pub first_number : NumberRange → List (List ℕ) → Option ℤ
first_number r [] = None
first_number r (w ∷ ws) = reads_as r w

-- with a list before what is read
abbrev pub behind_front : {A : Type 0} → List A → Option (List A) → Option (List A)
behind_front front None = None
behind_front front (Some xs) = Some (front ++ xs)

-- Bounds of the four entries of a vector.
use Rattle.std.specs.Prelude.{ℕ, List, [], ◌∷◌, ℤ}
use Rattle.rc_base.specs.Numbers.{Within, entry}

-- each of the four entries lies from -bound to bound
abbrev pub AllWithin : ℕ → List ℤ → Type 0
AllWithin bound v = Within bound (entry v 0) × Within bound (entry v 1) × Within bound (entry v 2) × Within bound (entry v 3)

-- the four entries
abbrev pub four : List ℤ → List ℤ
four v = entry v 0 ∷ entry v 1 ∷ entry v 2 ∷ entry v 3 ∷ []

-- Numbers as the command line has them.
use Rattle.std.specs.Prelude.{ℕ, ◌&&◌, ◌||◌, Bool, false, not, ◌==◌, List, [], ◌∷◌, length}
use Rattle.std.specs.Str.{all_ascii_digits}

-- `0`, or digits without a leading zero
abbrev pub is_plain : List ℕ → Bool
is_plain [] = false
is_plain (c ∷ cs) = all_ascii_digits (c ∷ cs) && (not (c == 48) || length cs == 0)

-- Lengths of spelled words, and the digit of a version.
use Rattle.std.proofs.Common.{◌≡◌, ℤ, ◌*◌, List, [], ◌∷◌, length, refl, ap, ◌∙◌, arith, length-append, ℕ}
use Rattle.std.proofs.lemmas.List.Concat.{flat_map-cons}
use Rattle.std.specs.List.{flat_map}
use Rattle.rc_base.specs.Formats.Spelling.{word, IsVersion, digit}

pub words_length : (zs : List ℤ) → length (flat_map word zs) ≡ 4 * length zs
words_length [] = refl
words_length (z ∷ zs) = ap length (flat_map-cons word z zs) ∙ length-append (word z) (flat_map word zs) ∙ omega (arith, words_length zs)

pub digit_is_not_three : (version : ℕ) → IsVersion version → digit version ≡ 0x33 → ⊥
digit_is_not_three version is e = omega (arith, is.1, e)

-- Numbers in their ranges.
use Rattle.std.proofs.Common.{◌≡◌, ℕ, zero, suc, ◌+◌, ◌<◌, true, List, [], ◌∷◌, ◌++◌, length, get_or, map, take, replicate, set, ap, refl, sym, to_z, of_z, ◌∙◌, arith, ℤ, pos, negsuc, FitsSigned, w32, leb}
use Rattle.std.proofs.lemmas.Int.{to_z-of_z}
use Rattle.std.proofs.lemmas.List.{take_more, take_more_set}
use Rattle.std.proofs.lemmas.Bool.{le-leb, leb-true, and_from, and_parts}
use Rattle.rc_base.specs.declared.command.NumberRange.{NumberRange}
use Rattle.rc_base.specs.declared.command.NumberRange.TheVariants as range
use Rattle.rc_base.specs.Formats.Commands.{is_in_range}
use Rattle.rc_base.specs.Numbers.{entry}
use Rattle.command_table.specs.Ranges.{AreIn}

-- ---- a number of a type is in the range of that type

pub byte_in : (n : ℕ) → n < 256 → is_in_range range.Byte (pos n) ≡ true
byte_in n h = and_from _ _ (le-leb 0 n (omega arith)) (le-leb n 255 (omega arith))

pub half_in : (n : ℕ) → n < 65536 → is_in_range range.Half (pos n) ≡ true
half_in n h = and_from _ _ (le-leb 0 n (omega arith)) (le-leb n 65535 (omega arith))

pub word_in : (z : ℤ) → FitsSigned w32 z → is_in_range range.Word z ≡ true
word_in (pos n) h = le-leb n 2147483647 (omega (arith, h.sfits))
word_in (negsuc n) h = and_from _ _ (le-leb n 2147483647 (omega (arith, h.sfits))) refl

-- ---- and a number in the range has the type

pub byte_typed : (n : ℕ) → is_in_range range.Byte (pos n) ≡ true → n < 256
byte_typed n e = let h = leb-true n 255 (and_parts (leb 0 n) (leb n 255) e).1 in omega (arith, h)

pub half_typed : (n : ℕ) → is_in_range range.Half (pos n) ≡ true → n < 65536
half_typed n e = let h = leb-true n 65535 (and_parts (leb 0 n) (leb n 65535) e).1 in omega (arith, h)

pub word_typed : (z : ℤ) → is_in_range range.Word z ≡ true → FitsSigned w32 z
word_typed (pos n) e = let h = leb-true n 2147483647 e in record { sfits = omega (arith, h) }
word_typed (negsuc n) e = let h = leb-true n 2147483647 (and_parts (leb n 2147483647) true e).0 in record { sfits = omega (arith, h) }

-- ---- lists of numbers

pub bytes_in : (ns : List ℕ) → ((i : ℕ) → get_or ns i 0 < 256) → AreIn (replicate (length ns) range.Byte) (map pos ns)
bytes_in [] h = tt
bytes_in (n ∷ ns) h = (byte_in n (h 0), bytes_in ns (λ i. h (suc i)))

-- one more number of a range stands behind the others
in_more : (r : NumberRange) (zs : List ℤ) (z : ℤ) → AreIn (replicate (length zs) r) zs → is_in_range r z ≡ true → AreIn (replicate (length (zs ++ z ∷ [])) r) (zs ++ z ∷ [])
in_more r [] z h k = (k, tt)
in_more r (y ∷ ys) z h k = (h.0, in_more r ys z h.1 k)

pub words_more : (zs : List ℤ) (i : ℕ) → i < length zs → FitsSigned w32 (get_or zs i (pos 0)) → AreIn (replicate (length (take i zs)) range.Word) (take i zs)
    → AreIn (replicate (length (take (i + 1) zs)) range.Word) (take (i + 1) zs)
words_more zs i less fits h =
    rw (take_more zs i (pos 0) less) (in_more range.Word (take i zs) (get_or zs i (pos 0)) h (word_in (get_or zs i (pos 0)) fits))

-- what is put behind the numbers before it
pub put_more : (room zs : List ℤ) (i : ℕ) (z : ℤ) → i < length room → i < length zs → FitsSigned w32 z → z ≡ get_or zs i (pos 0) → take i room ≡ take i zs
    → take (i + 1) (set room i (to_z w32 (of_z w32 z))) ≡ take (i + 1) zs
put_more room zs i z inside less fits is e =
    rw (to_z-of_z w32 z fits)
    (take_more_set room i z inside ∙ (λ j. e j ++ is j ∷ []) ∙ sym (take_more zs i (pos 0) less))

pub length_in : (rs : List NumberRange) (zs : List ℤ) → AreIn rs zs → length zs ≡ length rs
length_in [] [] h = refl
length_in [] (z ∷ zs) h = absurd h
length_in (r ∷ rs) [] h = absurd h
length_in (r ∷ rs) (z ∷ zs) h = ap suc (length_in rs zs h.1)

-- the number at a place is in the range at that place
pub in_at : (rs : List NumberRange) (zs : List ℤ) (i : ℕ) (d : NumberRange) → AreIn rs zs → i < length rs → is_in_range (get_or rs i d) (entry zs i) ≡ true
in_at [] zs i d h less = absurd (omega (arith, less))
in_at (r ∷ rs) [] i d h less = absurd h
in_at (r ∷ rs) (z ∷ zs) zero d h less = h.0
in_at (r ∷ rs) (z ∷ zs) (suc i) d h less = in_at rs zs i d h.1 (omega (arith, less))

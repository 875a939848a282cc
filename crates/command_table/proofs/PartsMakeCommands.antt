-- Any numbers in their ranges, and any texels where there is a picture, are the parts of a command.
use Rattle.std.proofs.Common.{◌≡◌, ℕ, ℤ, zero, suc, true, false, List, [], ◌∷◌, map, replicate, ap, refl, sym, ◌∙◌, subst, append-nil, pos, negsuc, unsigned_abs}
use Rattle.std.specs.List.{flat_map}
use Rattle.rc_base.specs.declared.command.Opcode.{Opcode}
use Rattle.rc_base.specs.declared.command.NumberRange.TheVariants as range
use Rattle.rc_base.specs.Formats.Commands.{Kind, kinds_of, kind_ranges, ranges_of, is_in_range, ends_in_picture, has_picture, value_numbers, field_numbers, field_texels, command_parts, parts_of}
use Rattle.rc_base.specs.Formats.Commands.Kind.{Byte, Half, Word, Code, Bytes, Words, Image}
use Rattle.command_table.specs.Ranges.{AreIn}
use Rattle.command_table.proofs.FieldsAndParts.{leads_singly, leads, parts_made, rest, value_from, fields_from, command_of_parts}

pub byte_again : (z : ℤ) → is_in_range range.Byte z ≡ true → pos (unsigned_abs z) ≡ z
byte_again (pos n) h = refl
byte_again (negsuc n) h = absurd cc

pub half_again : (z : ℤ) → is_in_range range.Half z ≡ true → pos (unsigned_abs z) ≡ z
half_again (pos n) h = refl
half_again (negsuc n) h = absurd cc

bytes_again : (count : ℕ) (zs : List ℤ) → AreIn (replicate count range.Byte) zs → map pos (map unsigned_abs zs) ≡ zs
bytes_again zero [] h = refl
bytes_again zero (z ∷ zs) h = absurd h
bytes_again (suc n) [] h = absurd h
bytes_again (suc n) (z ∷ zs) h = λ i. byte_again z h.0 i ∷ bytes_again n zs h.1 i

-- the last field
last_numbers : (k : Kind) (zs : List ℤ) (ts : List ℕ) → AreIn (kind_ranges k) zs → value_numbers k (value_from k zs ts) ≡ zs
last_numbers Byte [] ts h = absurd h
last_numbers Byte (z ∷ []) ts h = ap (λ y. y ∷ []) (byte_again z h.0)
last_numbers Byte (z ∷ (y ∷ zs)) ts h = absurd h.1
last_numbers Half [] ts h = absurd h
last_numbers Half (z ∷ []) ts h = ap (λ y. y ∷ []) (half_again z h.0)
last_numbers Half (z ∷ (y ∷ zs)) ts h = absurd h.1
last_numbers Word [] ts h = absurd h
last_numbers Word (z ∷ []) ts h = refl
last_numbers Word (z ∷ (y ∷ zs)) ts h = absurd h.1
last_numbers (Code count) [] ts h = absurd h
last_numbers (Code count) (z ∷ []) ts h = ap (λ y. y ∷ []) (byte_again z h.0)
last_numbers (Code count) (z ∷ (y ∷ zs)) ts h = absurd h.1
last_numbers (Bytes count) zs ts h = bytes_again count zs h
last_numbers (Words count) zs ts h = refl
last_numbers Image [] ts h = absurd h
last_numbers Image (z ∷ []) ts h = absurd h.1
last_numbers Image (z ∷ (y ∷ [])) ts h = λ i. half_again z h.0 i ∷ half_again y h.1.0 i ∷ []
last_numbers Image (z ∷ (y ∷ (x ∷ zs))) ts h = absurd h.1.1

numbers_again : (ks : List Kind) (zs : List ℤ) (ts : List ℕ) → leads_singly ks ≡ true → AreIn (flat_map kind_ranges ks) zs → field_numbers ks (fields_from ks zs ts) ≡ zs
numbers_again [] [] ts e h = refl
numbers_again [] (z ∷ zs) ts e h = absurd h
numbers_again (k ∷ []) zs ts e h =
    append-nil (value_numbers k (value_from k zs ts)) ∙ last_numbers k zs ts (subst (λ rs. AreIn rs zs) (append-nil (kind_ranges k)) h)
numbers_again (Byte ∷ (l ∷ ks)) [] ts e h = absurd h
numbers_again (Byte ∷ (l ∷ ks)) (z ∷ zs) ts e h = λ i. byte_again z h.0 i ∷ numbers_again (l ∷ ks) zs ts e h.1 i
numbers_again (Half ∷ (l ∷ ks)) [] ts e h = absurd h
numbers_again (Half ∷ (l ∷ ks)) (z ∷ zs) ts e h = λ i. half_again z h.0 i ∷ numbers_again (l ∷ ks) zs ts e h.1 i
numbers_again (Word ∷ (l ∷ ks)) [] ts e h = absurd h
numbers_again (Word ∷ (l ∷ ks)) (z ∷ zs) ts e h = ap (λ ys. z ∷ ys) (numbers_again (l ∷ ks) zs ts e h.1)
numbers_again (Code count ∷ (l ∷ ks)) [] ts e h = absurd h
numbers_again (Code count ∷ (l ∷ ks)) (z ∷ zs) ts e h = λ i. byte_again z h.0 i ∷ numbers_again (l ∷ ks) zs ts e h.1 i
numbers_again (Bytes count ∷ (l ∷ ks)) zs ts e h = absurd cc
numbers_again (Words count ∷ (l ∷ ks)) zs ts e h = absurd cc
numbers_again (Image ∷ (l ∷ ks)) zs ts e h = absurd cc

texels_again : (ks : List Kind) (zs : List ℤ) (ts : List ℕ) → leads_singly ks ≡ true → (ends_in_picture ks ≡ false → ts ≡ []) → field_texels ks (fields_from ks zs ts) ≡ ts
texels_again [] zs ts e h = sym (h refl)
texels_again (Byte ∷ []) zs ts e h = sym (h refl)
texels_again (Half ∷ []) zs ts e h = sym (h refl)
texels_again (Word ∷ []) zs ts e h = sym (h refl)
texels_again (Code count ∷ []) zs ts e h = sym (h refl)
texels_again (Bytes count ∷ []) zs ts e h = sym (h refl)
texels_again (Words count ∷ []) zs ts e h = sym (h refl)
texels_again (Image ∷ []) zs ts e h = append-nil ts
texels_again (Byte ∷ (l ∷ ks)) zs ts e h = texels_again (l ∷ ks) (rest zs) ts e h
texels_again (Half ∷ (l ∷ ks)) zs ts e h = texels_again (l ∷ ks) (rest zs) ts e h
texels_again (Word ∷ (l ∷ ks)) zs ts e h = texels_again (l ∷ ks) (rest zs) ts e h
texels_again (Code count ∷ (l ∷ ks)) zs ts e h = texels_again (l ∷ ks) (rest zs) ts e h
texels_again (Bytes count ∷ (l ∷ ks)) zs ts e h = absurd cc
texels_again (Words count ∷ (l ∷ ks)) zs ts e h = absurd cc
texels_again (Image ∷ (l ∷ ks)) zs ts e h = absurd cc

pub parts_again : (o : Opcode) (zs : List ℤ) (ts : List ℕ) → AreIn (ranges_of o) zs → (has_picture o ≡ false → ts ≡ []) → parts_of (command_of_parts o zs ts) ≡ command_parts o zs ts
parts_again o zs ts h none =
    parts_made o (fields_from (kinds_of o) zs ts)
    ∙ (λ i. command_parts o (numbers_again (kinds_of o) zs ts (leads o) h i) (texels_again (kinds_of o) zs ts (leads o) none i))

-- The codecs of fields, and of the payload of each command.
use Rattle.std.proofs.Common.{◌≡◌, ℕ, ℤ, zero, suc, ◌*◌, ◌^◌, List, [], ◌∷◌, ◌++◌, length, Ok, refl, ap, subst, ◌∙◌, arith}
use Rattle.std.specs.Int.{w16, w32}
use Rattle.std.specs.Prelude.{FitsSigned}
use Rattle.std.specs.List.{AllByRecursion, flat_map}
use Rattle.std.proofs.lemmas.List.Concat.{flat_map-cons}
use Rattle.rc_base.specs.declared.command.Command.{Command}
use Rattle.rc_base.specs.declared.command.Opcode.{Opcode}
use Rattle.rc_base.specs.Formats.Commands.{Kind, IsValue, AreValues, IsCommand, opcode_of, kinds_of, fields_of}
use Rattle.rc_base.specs.Formats.Commands.Kind.{Byte, Half, Word, Code, Bytes, Words, Image}
use Rattle.rc_base.specs.Formats.Spelling.{word, value_bytes, field_bytes, payload}
use Rattle.command_table.specs.Making.{command_from}
use Rattle.command_table.proofs.FieldsAndParts.{payload_made, in_range_made, opcode_made, made_again}
use Rattle.byte_codec.specs.Reading.{read_words, cons}
use Rattle.packet_bytes.specs.Packets.{read_value, make_picture, read_fields, read_command}
use Rattle.byte_codec.specs.Codec.{Maker, Codec, sized_codec, convert_codec, convert_maker, convert_again}
use Rattle.byte_codec.specs.NumberCodecs.{byte_codec, number_codec, wide16, word_codec, run_codec}

-- ---- several words

abbrev pub AreWords : ℕ → List ℤ → Type 0
AreWords n zs = (length zs ≡ n) × AllByRecursion (FitsSigned w32) zs

abbrev pub words : List ℤ → List ℕ
words zs = flat_map word zs

no_words_again : (zs : List ℤ) (rest : List ℕ) → AreWords 0 zs → read_words 0 (words zs ++ rest) ≡ Ok (zs, rest)
unfolding read_words
no_words_again [] rest fits = refl
no_words_again (z ∷ zs) rest fits = absurd (omega (arith, fits.0))

no_words : Codec (read_words 0) words (AreWords 0)
unfolding read_words
no_words = record {
  maker = record {
    takes = λ bytes zs rest fits e.
        let same : (let v : List ℤ × List ℕ = ([], bytes) in v) ≡ (zs, rest) = cc in
        subst (λ (v : List ℤ × List ℕ). (bytes ≡ words v.0 ++ v.1) × AreWords 0 v.0) same (refl, (refl, tt));
    cut = λ bytes f fits e. absurd cc;
    some = ([], (refl, tt));
  };
  again = no_words_again;
}

abbrev Taken : ℕ → List ℤ → Type 0
Taken n zs = (x : ℤ × List ℤ) × (FitsSigned w32 x.0 × AreWords n x.1) × (cons x ≡ zs)

words_back : (n : ℕ) (zs : List ℤ) → AreWords (suc n) zs → Taken n zs
words_back n [] fits = absurd (omega (arith, fits.0))
words_back n (z ∷ zs) fits = ((z, zs), (fits.1.0, (omega (arith, fits.0), fits.1.1)), refl)

pub words_codec : (n : ℕ) → Codec (read_words n) words (AreWords n)
unfolding read_words
words_codec zero = no_words
words_codec (suc n) =
    convert_codec cons words (AreWords (suc n)) (sized_codec word_codec (λ _ _. words_codec n))
    (λ x fits. (flat_map-cons word x.0 x.1, (ap suc fits.1.0, (fits.0, fits.1.1))))
    (words_back n)

-- ---- fields

pub value_codec : (k : Kind) → Codec (read_value k) (value_bytes k) (IsValue k)
unfolding read_value
value_codec Byte = byte_codec
value_codec Half = number_codec w16 (2 ^ 16) wide16
value_codec Word = word_codec
value_codec (Code count) = byte_codec
value_codec (Bytes count) = run_codec count
value_codec (Words count) = words_codec count
value_codec Image =
    convert_codec make_picture (value_bytes Image) (IsValue Image)
    (sized_codec (sized_codec (number_codec w16 (2 ^ 16) wide16) (λ _ _. number_codec w16 (2 ^ 16) wide16)) (λ s _. run_codec (4 * (s.0 * s.1))))
    (λ x fits. (refl, (fits.0.0, fits.0.1, fits.1.0, fits.1.1)))
    (λ p fits. (((p.w, p.h), p.texels), ((fits.0, fits.1), (fits.2, fits.3)), refl))

no_fields : Codec (read_fields []) (field_bytes []) (AreValues [])
unfolding read_fields
no_fields = record {
  maker = record {
    takes = λ bytes x rest fits e.
        let same : (let v : Unit {0} × List ℕ = (tt, bytes) in v) ≡ (x, rest) = cc in
        (ap (λ (v : Unit {0} × List ℕ). v.1) same, tt);
    cut = λ bytes f fits e. absurd cc;
    some = (tt, tt);
  };
  again = λ x rest fits. refl;
}

pub fields_codec : (ks : List Kind) → Codec (read_fields ks) (field_bytes ks) (AreValues ks)
unfolding read_fields
fields_codec [] = no_fields
fields_codec (k ∷ ks) = sized_codec (value_codec k) (λ _ _. fields_codec ks)

-- ---- payloads

abbrev pub IsOf : Opcode → Command → Type 0
IsOf o c = IsCommand c × (opcode_of c ≡ o)

pub payload_maker : (o : Opcode) → Maker (read_command o) payload (IsOf o)
unfolding read_command
payload_maker o =
    convert_maker (command_from o) payload (IsOf o) (fields_codec (kinds_of o)).maker
    (λ x fits. (payload_made o x, (in_range_made o x fits, opcode_made o x)))

pub payload_again : (c : Command) (rest : List ℕ) → IsCommand c → read_command (opcode_of c) (payload c ++ rest) ≡ Ok (c, rest)
unfolding read_command
payload_again c rest fits =
    let o = opcode_of c in
    convert_again (command_from o) (fields_codec (kinds_of o)) (fields_of c) rest fits ∙ ap (λ d. Ok (d, rest)) (made_again c)

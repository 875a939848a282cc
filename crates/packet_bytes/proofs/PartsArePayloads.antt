-- The bytes of a command's parts are its payload.
use Rattle.std.proofs.Common.{◌≡◌, ℕ, ℤ, zero, suc, ◌+◌, ◌<◌, true, List, [], ◌∷◌, ◌++◌, length, get_or, map, take, replicate, Ok, Err, pos, refl, sym, ap, subst, ◌∙◌, append-nil, append_assoc, arith, w32, FitsSigned}
use Rattle.std.specs.List.{flat_map, AllByRecursion}
use Rattle.std.specs.Prelude.{OnOk}
use Rattle.std.specs.declared.result.Result.{Result}
use Rattle.std.proofs.lemmas.List.Concat.{flat_map-cons}
use Rattle.rc_base.specs.declared.command.Command.{Command}
use Rattle.rc_base.specs.declared.command.NumberRange.{NumberRange}
use Rattle.rc_base.specs.declared.command.NumberRange.TheVariants as range
use Rattle.rc_base.specs.Numbers.{entry}
use Rattle.rc_base.specs.Formats.Commands.{Kind, Value, Fields, AreBytes, opcode_of, kinds_of, fields_of, kind_ranges, ranges_of, value_numbers, value_texels, field_numbers, field_texels, parts_of}
use Rattle.rc_base.specs.Formats.Commands.Kind.{Byte, Half, Word, Code, Bytes, Words, Image}
use Rattle.rc_base.specs.Formats.Spelling.{half, word, value_bytes, field_bytes, payload}
use Rattle.command_table.specs.Ranges.{AreIn}
use Rattle.command_table.proofs.NumbersInRange.{byte_typed, half_typed, word_typed}
use Rattle.command_table.proofs.FieldsAndParts.{leads_singly, leads}
use Rattle.packet_bytes.specs.Parts.{number_bytes, numbers_bytes}
use Rattle.packet_bytes.specs.Texels.{IsTyped, AreTyped, HasType}

-- ---- one number after the other

bytes_next : (rs : List NumberRange) (zs : List ℤ) (i : ℕ) (d : NumberRange) → AreIn rs zs → i < length rs
    → numbers_bytes (take (suc i) rs) zs ≡ numbers_bytes (take i rs) zs ++ number_bytes (get_or rs i d) (entry zs i)
bytes_next [] zs i d h less = absurd (omega (arith, less))
bytes_next (r ∷ rs) [] i d h less = absurd h
bytes_next (r ∷ rs) (z ∷ zs) zero d h less = append-nil (number_bytes r z)
bytes_next (r ∷ rs) (z ∷ zs) (suc i) d h less =
    ap (λ (l : List ℕ). number_bytes r z ++ l) (bytes_next rs zs i d h.1 (omega (arith, less)))
    ∙ sym (append_assoc (number_bytes r z) (numbers_bytes (take i rs) zs) (number_bytes (get_or rs i d) (entry zs i)))

pub bytes_more : (rs : List NumberRange) (zs : List ℤ) (i : ℕ) (d : NumberRange) (old out new : List ℕ) → AreIn rs zs → i < length rs
    → out ≡ old ++ numbers_bytes (take i rs) zs → new ≡ out ++ number_bytes (get_or rs i d) (entry zs i) → new ≡ old ++ numbers_bytes (take (i + 1) rs) zs
bytes_more rs zs i d old out new h less before more =
    let one = number_bytes (get_or rs i d) (entry zs i) in
    let next : suc i ≡ i + 1 = omega arith in
    more ∙ ap (λ (l : List ℕ). l ++ one) before ∙ append_assoc old (numbers_bytes (take i rs) zs) one
    ∙ ap (λ (l : List ℕ). old ++ l) (sym (bytes_next rs zs i d h less))
    ∙ ap (λ (n : ℕ). old ++ numbers_bytes (take n rs) zs) next

-- ---- numbers in their ranges have their types

one_more : (n : ℕ) (ns : List ℕ) → n < 256 → AreBytes ns → AreBytes (n ∷ ns)
one_more n ns h k zero = h
one_more n ns h k (suc i) = k i

bytes_typed : (count : ℕ) (ns : List ℕ) → AreIn (replicate count range.Byte) (map pos ns) → (length ns ≡ count) × AreBytes ns
bytes_typed zero [] h = (refl, λ i. omega arith)
bytes_typed zero (n ∷ ns) h = absurd h
bytes_typed (suc count) [] h = absurd h
bytes_typed (suc count) (n ∷ ns) h = let rest = bytes_typed count ns h.1 in (ap suc rest.0, one_more n ns (byte_typed n h.0) rest.1)

words_typed : (count : ℕ) (zs : List ℤ) → AreIn (replicate count range.Word) zs → (length zs ≡ count) × AllByRecursion (FitsSigned w32) zs
words_typed zero [] h = (refl, tt)
words_typed zero (z ∷ zs) h = absurd h
words_typed (suc count) [] h = absurd h
words_typed (suc count) (z ∷ zs) h = (ap suc (words_typed count zs h.1).0, (word_typed z h.0, (words_typed count zs h.1).1))

value_typed : (k : Kind) (v : Value k) → AreIn (kind_ranges k) (value_numbers k v) → AreBytes (value_texels k v) → IsTyped k v
value_typed Byte n h t = byte_typed n h.0
value_typed Half n h t = half_typed n h.0
value_typed Word z h t = word_typed z h.0
value_typed (Code count) n h t = byte_typed n h.0
value_typed (Bytes count) ns h t = bytes_typed count ns h
value_typed (Words count) zs h t = words_typed count zs h
value_typed Image p h t = (half_typed p.w h.0, half_typed p.h h.1.0, t)

-- ---- the bytes of a field

bytes_parts : (count : ℕ) (ns : List ℕ) → AreIn (replicate count range.Byte) (map pos ns) → numbers_bytes (replicate count range.Byte) (map pos ns) ≡ ns
bytes_parts zero [] h = refl
bytes_parts zero (n ∷ ns) h = absurd h
bytes_parts (suc count) [] h = absurd h
bytes_parts (suc count) (n ∷ ns) h = ap (λ (l : List ℕ). n ∷ l) (bytes_parts count ns h.1)

words_parts : (count : ℕ) (zs : List ℤ) → AreIn (replicate count range.Word) zs → numbers_bytes (replicate count range.Word) zs ≡ flat_map word zs
words_parts zero [] h = refl
words_parts zero (z ∷ zs) h = absurd h
words_parts (suc count) [] h = absurd h
words_parts (suc count) (z ∷ zs) h = ap (λ (l : List ℕ). word z ++ l) (words_parts count zs h.1) ∙ sym (flat_map-cons word z zs)

value_parts : (k : Kind) (v : Value k) → AreIn (kind_ranges k) (value_numbers k v) → numbers_bytes (kind_ranges k) (value_numbers k v) ++ value_texels k v ≡ value_bytes k v
value_parts Byte n h = refl
value_parts Half n h = append-nil (half n ++ []) ∙ append-nil (half n)
value_parts Word z h = append-nil (word z ++ []) ∙ append-nil (word z)
value_parts (Code count) n h = refl
value_parts (Bytes count) ns h = append-nil _ ∙ bytes_parts count ns h
value_parts (Words count) zs h = append-nil _ ∙ words_parts count zs h
value_parts Image p h =
    ap (λ (l : List ℕ). (half p.w ++ l) ++ p.texels) (append-nil (half p.h)) ∙ append_assoc (half p.w) (half p.h) p.texels

-- ---- the fields of a command

record Same (ks : List Kind) (x : Fields ks) : Type 0 where
  bytes : numbers_bytes (flat_map kind_ranges ks) (field_numbers ks x) ++ field_texels ks x ≡ field_bytes ks x
  typed : AreTyped ks x

one_same : (k : Kind) (x : Fields (k ∷ [])) → AreIn (flat_map kind_ranges (k ∷ [])) (field_numbers (k ∷ []) x) → AreBytes (field_texels (k ∷ []) x) → Same (k ∷ []) x
one_same k x h t =
    let inside : AreIn (kind_ranges k) (value_numbers k x.0) = subst (λ (rs : List NumberRange). AreIn rs (value_numbers k x.0)) (append-nil (kind_ranges k))
    (subst (AreIn (kind_ranges k ++ [])) (append-nil (value_numbers k x.0)) h) in
    let bytes : AreBytes (value_texels k x.0) = subst AreBytes (append-nil (value_texels k x.0)) t in
    record {
      bytes = (λ i. numbers_bytes (append-nil (kind_ranges k) i) (append-nil (value_numbers k x.0) i) ++ append-nil (value_texels k x.0) i)
          ∙ value_parts k x.0 inside ∙ sym (append-nil (value_bytes k x.0));
      typed = (value_typed k x.0 inside bytes, tt);
    }

fields_same : (ks : List Kind) (x : Fields ks) → leads_singly ks ≡ true → AreIn (flat_map kind_ranges ks) (field_numbers ks x) → AreBytes (field_texels ks x) → Same ks x
fields_same [] x e h t = record { bytes = refl; typed = tt }
fields_same (k ∷ []) x e h t = one_same k x h t
fields_same (Byte ∷ (l ∷ ks)) x e h t =
    let rest = fields_same (l ∷ ks) x.1 e h.1 t in
    record { bytes = ap (λ (m : List ℕ). x.0 ∷ m) rest.bytes; typed = (byte_typed x.0 h.0, rest.typed) }
fields_same (Half ∷ (l ∷ ks)) x e h t =
    let rest = fields_same (l ∷ ks) x.1 e h.1 t in
    record {
      bytes = append_assoc (half x.0) (numbers_bytes (flat_map kind_ranges (l ∷ ks)) (field_numbers (l ∷ ks) x.1)) (field_texels (l ∷ ks) x.1)
          ∙ ap (λ (m : List ℕ). half x.0 ++ m) rest.bytes;
      typed = (half_typed x.0 h.0, rest.typed);
    }
fields_same (Word ∷ (l ∷ ks)) x e h t =
    let rest = fields_same (l ∷ ks) x.1 e h.1 t in
    record {
      bytes = append_assoc (word x.0) (numbers_bytes (flat_map kind_ranges (l ∷ ks)) (field_numbers (l ∷ ks) x.1)) (field_texels (l ∷ ks) x.1)
          ∙ ap (λ (m : List ℕ). word x.0 ++ m) rest.bytes;
      typed = (word_typed x.0 h.0, rest.typed);
    }
fields_same (Code count ∷ (l ∷ ks)) x e h t =
    let rest = fields_same (l ∷ ks) x.1 e h.1 t in
    record { bytes = ap (λ (m : List ℕ). x.0 ∷ m) rest.bytes; typed = (byte_typed x.0 h.0, rest.typed) }
fields_same (Bytes count ∷ (l ∷ ks)) x e h t = absurd cc
fields_same (Words count ∷ (l ∷ ks)) x e h t = absurd cc
fields_same (Image ∷ (l ∷ ks)) x e h t = absurd cc

-- the bytes of a command's parts are its payload, and it has the types of its fields
pub parts_are : (c : Command) (numbers : List ℤ) (texels : List ℕ) → numbers ≡ (parts_of c).numbers → texels ≡ (parts_of c).texels
    → AreIn (ranges_of (opcode_of c)) numbers → AreBytes texels
    → (numbers_bytes (ranges_of (opcode_of c)) numbers ++ texels ≡ payload c) × HasType c
parts_are c numbers texels n t h b =
    let ks = kinds_of (opcode_of c) in
    let ranges = ranges_of (opcode_of c) in
    let same = fields_same ks (fields_of c) (leads (opcode_of c)) (subst (AreIn ranges) n h) (subst AreBytes t b) in (
      (λ i. numbers_bytes ranges (n i) ++ t i) ∙ same.bytes,
      same.typed,
    )

module _ {A B : Type 0} (r : Result A B) (c : Command) (numbers : List ℤ) (texels old out new : List ℕ)
    (numbers_are : numbers ≡ (parts_of c).numbers) (texels_are : texels ≡ (parts_of c).texels)
    (in_range : AreIn (ranges_of (opcode_of c)) numbers) (put : out ≡ old ++ numbers_bytes (ranges_of (opcode_of c)) numbers) where
  pub payload_added : OnOk r (new ≡ out ++ texels) → OnOk r (AreBytes texels) → OnOk r (new ≡ old ++ payload c)
  payload_added h b = go r h b where
    go : (r : Result A B) → OnOk r (new ≡ out ++ texels) → OnOk r (AreBytes texels) → OnOk r (new ≡ old ++ payload c)
    go (Ok x) h b =
        h ∙ ap (λ (l : List ℕ). l ++ texels) put ∙ append_assoc old (numbers_bytes (ranges_of (opcode_of c)) numbers) texels
        ∙ ap (λ (l : List ℕ). old ++ l) (parts_are c numbers texels numbers_are texels_are in_range b).0
    go (Err e) h b = tt

  pub payload_typed : OnOk r (AreBytes texels) → OnOk r (HasType c)
  payload_typed b = go r b where
    go : (r : Result A B) → OnOk r (AreBytes texels) → OnOk r (HasType c)
    go (Ok x) b = (parts_are c numbers texels numbers_are texels_are in_range b).1
    go (Err e) b = tt

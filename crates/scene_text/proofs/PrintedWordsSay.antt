-- The words of a printed line say its statement again.
use Rattle.std.proofs.Common.{◌≡◌, ℕ, zero, suc, ◌+◌, ◌-◌, ◌*◌, ◌/◌, ◌%◌, ◌^◌, ◌<◌, ◌≤◌, ◌==◌, ◌&&◌, Bool, true, false, cond, nat_le, nat_lt, List, [], ◌∷◌, ◌++◌, map, length, take, drop, get_or, replicate, ap, refl, sym, subst, ◌∙◌, arith, append-nil, ℤ, pos, negsuc, unsigned_abs, FitsSigned, w32, Some, None, Ok, Err, length-append}
use Rattle.std.specs.List.{flat_map, AllByRecursion}
use Rattle.std.specs.Option.{option_map, option_and_then}
use Rattle.std.specs.Fmt.{decimal, signed_decimal}
use Rattle.std.specs.Str.{all_ascii_digits}
use Rattle.std.specs.Str.Parse.{digits_value}
use Rattle.std.proofs.lemmas.Fmt.{decimal_nonempty, length-decimal-le, digits_decimal, digits_value-decimal, decimal_is_IsNumeral}
use Rattle.std.proofs.lemmas.Str.Parse.{digit_at}
use Rattle.std.proofs.lemmas.Bool.{and_from, le-leb, ltb-true, ltb-false, lt-leb, and_right, ne_eqb, eq-eqb}
use Rattle.std.proofs.lemmas.List.{take_at, drop_at, length-map}
use Rattle.rc_base.specs.declared.command.Command.{Command}
use Rattle.rc_base.specs.declared.command.Command.TheVariants as cmd
use Rattle.rc_base.specs.declared.command.Opcode.{Opcode}
use Rattle.rc_base.specs.declared.command.Opcode.TheVariants as op
use Rattle.rc_base.specs.declared.scene.TextKind.TheVariants as kind
use Rattle.rc_base.specs.declared.text.LineName.{LineName}
use Rattle.rc_base.specs.declared.text.LineName.TheVariants as line
use Rattle.rc_base.specs.declared.command.NumberRange.{NumberRange}
use Rattle.rc_base.specs.declared.command.NumberRange.TheVariants as range
use Rattle.rc_base.specs.Formats.Commands.{Kind, Value, Fields, AreBytes, IsValue, AreValues, IsCommand, opcode_of, kinds_of, fields_of, kind_ranges, value_numbers, value_texels, field_numbers, field_texels, is_in_range, picture_area}
use Rattle.rc_base.specs.Formats.Commands.Kind.{Byte, Half, Word, Code, Bytes, Words, Image}
use Rattle.scene_text.specs.Text.Statements.{Statement, statement, word_of, line_ranges, line_has_picture, command_statement}
use Rattle.scene_text.specs.Text.Printed.{hex_digit, hex_byte, texel_words, argument_words}
use Rattle.command_table.proofs.ByOpcode.{same_for_each}
use Rattle.byte_codec.specs.Codec.{AreBytes-both}
use Rattle.command_table.proofs.NumbersInRange.{byte_in, half_in, word_in}
use Rattle.scene_text.specs.Text.Read.{magnitude_of, is_negative, negative, spelled_number, if_in, with_first, numbers_of, hex_value, hex_pair, hex_bytes, spelled_texels, or_fault, has_version, with_texels, with_numbers, is_rest_count, is_counted, arguments_say, name_of}
use Rattle.plain_lemmas.proofs.Numbers.{decimal_numerals}

-- ---- numbers

magnitude_back : (n : ℕ) → n < 10000000000 → magnitude_of (decimal n) ≡ Some n
magnitude_back n h =
    let small : n < 2 ^ 64 = omega arith in
    let some : 0 < length (decimal n) = decimal_nonempty n small in
    let a : nat_le 1 (length (decimal n)) ≡ true = le-leb 1 (length (decimal n)) (omega arith) in
    let b : nat_le (length (decimal n)) 10 ≡ true = le-leb (length (decimal n)) 10 (length-decimal-le 10 n (omega arith) (omega arith) small) in
    let c : all_ascii_digits (decimal n) ≡ true = digits_decimal decimal_numerals n small in
    let v : digits_value 10 (decimal n) ≡ n = digits_value-decimal decimal_numerals n small in
    λ i. cond (a i && b i && c i) (Some (v i)) None

unsigned_plain : (n : ℕ) → n < 2 ^ 64 → is_negative (decimal n) ≡ false
unsigned_plain n h =
    let r = digit_at (decimal n) 0 (decimal_is_IsNumeral n h).0.1 (decimal_nonempty n h) in
    ne_eqb (get_or (decimal n) 0 0) 45 (λ e. omega (arith, e, r.0))

number_back : (z : ℤ) → unsigned_abs z < 10000000000 → spelled_number (signed_decimal z) ≡ Some z
number_back (pos n) h =
    ap (λ b. cond b (option_map negative (magnitude_of (drop 1 (decimal n)))) (option_map pos (magnitude_of (decimal n)))) (unsigned_plain n (omega arith))
    ∙ ap (option_map pos) (magnitude_back n h)
number_back (negsuc n) h = ap (option_map negative) (magnitude_back (suc n) h)

-- a number that its range allows
abbrev pub Ready : NumberRange → ℤ → Type 0
Ready r z = (is_in_range r z ≡ true) × (unsigned_abs z < 10000000000)

pub ready_byte : (n : ℕ) → n < 256 → Ready range.Byte (pos n)
ready_byte n h = (byte_in n h, omega arith)

pub ready_half : (n : ℕ) → n < 2 ^ 16 → Ready range.Half (pos n)
ready_half n h = (half_in n h, omega arith)

ready_word : (z : ℤ) → FitsSigned w32 z → Ready range.Word z
ready_word z h = (word_in z h, small z h)
  where
    small : (z : ℤ) → FitsSigned w32 z → unsigned_abs z < 10000000000
    small (pos n) h = omega (arith, h.sfits)
    small (negsuc n) h = omega (arith, h.sfits)

abbrev pub AllReady : List NumberRange → List ℤ → Type 0
AllReady [] [] = Unit {0}
AllReady [] (z ∷ zs) = ⊥
AllReady (r ∷ rs) [] = ⊥
AllReady (r ∷ rs) (z ∷ zs) = Ready r z × AllReady rs zs

numbers_back : (rs : List NumberRange) (zs : List ℤ) → AllReady rs zs → numbers_of rs (map signed_decimal zs) ≡ Some zs
numbers_back [] [] h = refl
numbers_back [] (z ∷ zs) h = absurd h
numbers_back (r ∷ rs) [] h = absurd h
numbers_back (r ∷ rs) (z ∷ zs) h =
    ap (λ o. with_first (option_and_then (if_in r) o) (numbers_of rs (map signed_decimal zs))) (number_back z h.0.1)
    ∙ ap (λ b. with_first (cond b (Some z) None) (numbers_of rs (map signed_decimal zs))) h.0.0
    ∙ ap (with_first (Some z)) (numbers_back rs zs h.1)

ready_length : (rs : List NumberRange) (zs : List ℤ) → AllReady rs zs → length zs ≡ length rs
ready_length [] [] h = refl
ready_length [] (z ∷ zs) h = absurd h
ready_length (r ∷ rs) [] h = absurd h
ready_length (r ∷ rs) (z ∷ zs) h = ap suc (ready_length rs zs h.1)

ready_append : (rs : List NumberRange) (zs : List ℤ) (qs : List NumberRange) (ys : List ℤ) → AllReady rs zs → AllReady qs ys → AllReady (rs ++ qs) (zs ++ ys)
ready_append [] [] qs ys h k = k
ready_append [] (z ∷ zs) qs ys h k = absurd h
ready_append (r ∷ rs) [] qs ys h k = absurd h
ready_append (r ∷ rs) (z ∷ zs) qs ys h k = (h.0, ready_append rs zs qs ys h.1 k)

ready_bytes : (count : ℕ) (ns : List ℕ) → length ns ≡ count → AreBytes ns → AllReady (replicate count range.Byte) (map pos ns)
ready_bytes zero [] e h = tt
ready_bytes zero (n ∷ ns) e h = absurd (omega arith)
ready_bytes (suc count) [] e h = absurd (omega arith)
ready_bytes (suc count) (n ∷ ns) e h = (ready_byte n (h 0), ready_bytes count ns (omega arith) (λ i. h (suc i)))

ready_words : (count : ℕ) (zs : List ℤ) → length zs ≡ count → AllByRecursion (FitsSigned w32) zs → AllReady (replicate count range.Word) zs
ready_words zero [] e h = tt
ready_words zero (z ∷ zs) e h = absurd (omega arith)
ready_words (suc count) [] e h = absurd (omega arith)
ready_words (suc count) (z ∷ zs) e h = (ready_word z h.0, ready_words count zs (omega arith) h.1)

ready_value : (k : Kind) (x : Value k) → IsValue k x → AllReady (kind_ranges k) (value_numbers k x)
ready_value Byte n h = (ready_byte n h, tt)
ready_value Half n h = (ready_half n h, tt)
ready_value Word z h = (ready_word z h, tt)
ready_value (Code count) n h = (ready_byte n h, tt)
ready_value (Bytes count) ns h = ready_bytes count ns h.0 h.1
ready_value (Words count) zs h = ready_words count zs h.0 h.1
ready_value Image p h = (ready_half p.w h.0, (ready_half p.h h.1, tt))

ready_fields : (ks : List Kind) (x : Fields ks) → AreValues ks x → AllReady (flat_map kind_ranges ks) (field_numbers ks x)
ready_fields [] x h = tt
ready_fields (k ∷ ks) x h =
    ready_append (kind_ranges k) (value_numbers k x.0) (flat_map kind_ranges ks) (field_numbers ks x.1) (ready_value k x.0 h.0) (ready_fields ks x.1 h.1)

-- ---- texels

decimal_case : (d : ℕ) → d < 10 → hex_value (48 + d) ≡ Some d
decimal_case d h =
    ap (λ b. cond b (Some (48 + d - 48)) (cond (nat_le 97 (48 + d) && nat_le (48 + d) 102) (Some (48 + d - 87)) (cond (nat_le 65 (48 + d) && nat_le (48 + d) 70) (Some (48 + d - 55)) None)))
    (and_from _ _ (le-leb 48 (48 + d) (omega arith)) (le-leb (48 + d) 57 (omega arith)))
    ∙ ap Some (omega arith)

letter_case : (d : ℕ) → 10 ≤ d → d < 16 → hex_value (87 + d) ≡ Some d
letter_case d low high =
    let no : nat_le 48 (87 + d) && nat_le (87 + d) 57 ≡ false = and_right (nat_le 48 (87 + d)) (nat_le (87 + d) 57) (lt-leb (87 + d) 57 (omega arith)) in
    ap (λ b. cond b (Some (87 + d - 48)) (cond (nat_le 97 (87 + d) && nat_le (87 + d) 102) (Some (87 + d - 87)) (cond (nat_le 65 (87 + d) && nat_le (87 + d) 70) (Some (87 + d - 55)) None))) no
    ∙ ap (λ b. cond b (Some (87 + d - 87)) (cond (nat_le 65 (87 + d) && nat_le (87 + d) 70) (Some (87 + d - 55)) None))
    (and_from _ _ (le-leb 97 (87 + d) (omega arith)) (le-leb (87 + d) 102 (omega arith)))
    ∙ ap Some (omega arith)

hex_digit_back : (d : ℕ) → d < 16 → hex_value (hex_digit d) ≡ Some d
hex_digit_back d h = go (nat_lt d 10) refl
  where
    go : (b : Bool) → nat_lt d 10 ≡ b → hex_value (cond b (48 + d) (87 + d)) ≡ Some d
    go true e = decimal_case d (omega (arith, ltb-true d 10 e))
    go false e = letter_case d (omega (arith, ltb-false d 10 e)) h

hex_pair_back : (b : ℕ) → b < 256 → hex_pair (hex_value (hex_digit (b / 16))) (hex_value (hex_digit (b % 16))) ≡ Some b
hex_pair_back b h =
    (λ i. hex_pair (hex_digit_back (b / 16) (omega arith) i) (hex_digit_back (b % 16) (omega arith) i))
    ∙ ap Some (omega arith)

hex_back : (ts : List ℕ) → AreBytes ts → hex_bytes (flat_map hex_byte ts) ≡ Some ts
hex_back [] h = refl
hex_back (b ∷ ts) h =
    ap (λ o. with_first o (hex_bytes (flat_map hex_byte ts))) (hex_pair_back b (h 0)) ∙ ap (with_first (Some b)) (hex_back ts (λ i. h (suc i)))

hex_length : (ts : List ℕ) → length (flat_map hex_byte ts) ≡ 2 * length ts
hex_length [] = refl
hex_length (b ∷ ts) = omega (arith, hex_length ts)

texels_back : (name : LineName) (numbers : List ℤ) (ts : List ℕ) (area : ℕ) → picture_area numbers ≡ area → length ts ≡ 4 * area → AreBytes ts
    → with_texels name (texel_words ts) numbers ≡ Ok (statement name numbers ts)
texels_back name numbers [] area a e h = refl
texels_back name numbers (b ∷ ts) area a e h =
    let word = flat_map hex_byte (b ∷ ts) in
    let long : length word ≡ 8 * area = omega (arith, hex_length (b ∷ ts), e) in
    ap (λ n. or_fault kind.BadHex (option_map (statement name numbers) (spelled_texels n word))) a
    ∙ ap (λ t. or_fault kind.BadHex (option_map (statement name numbers) (cond t (hex_bytes word) None))) (eq-eqb (length word) (8 * area) long)
    ∙ ap (λ o. or_fault kind.BadHex (option_map (statement name numbers) o)) (hex_back (b ∷ ts) h)

-- ---- what follows a name

counted_says : (name : LineName) (zs : List ℤ) (tw : List (List ℕ)) (s : Statement) → AllReady (line_ranges name) zs
    → has_version name zs ≡ true → is_counted name (map signed_decimal zs ++ tw) ≡ true → with_texels name tw zs ≡ Ok s → arguments_say name (map signed_decimal zs ++ tw) ≡ Ok s
unfolding arguments_say
counted_says name zs tw s r v c t =
    let count = length (line_ranges name) in
    let ws = map signed_decimal zs in
    let long : length ws ≡ count = length-map zs signed_decimal ∙ ready_length (line_ranges name) zs r in
    ap (λ b. cond b (with_numbers name (drop count (ws ++ tw)) (numbers_of (line_ranges name) (take count (ws ++ tw)))) (Err kind.WrongCount)) c
    ∙ (λ i. with_numbers name (drop_at ws tw count long i) (numbers_of (line_ranges name) (take_at ws tw count long i)))
    ∙ ap (with_numbers name tw) (numbers_back (line_ranges name) zs r)
    ∙ ap (λ b. cond b (with_texels name tw zs) (Err kind.BadNumber)) v
    ∙ t

pub plain_says : (name : LineName) (zs : List ℤ) (ts : List ℕ) → line_has_picture name ≡ false → has_version name zs ≡ true → AllReady (line_ranges name) zs → ts ≡ []
    → arguments_say name (map signed_decimal zs ++ texel_words ts) ≡ Ok (statement name zs ts)
plain_says name zs ts p v r e =
    let count = length (line_ranges name) in
    let ws = map signed_decimal zs ++ [] in
    let long : length ws ≡ count = ap length (append-nil (map signed_decimal zs)) ∙ length-map zs signed_decimal ∙ ready_length (line_ranges name) zs r in
    let counted : is_counted name ws ≡ true =
    and_from _ _ (le-leb count (length ws) (omega arith))
    (ap (λ b. cond b (is_rest_count (numbers_of (range.Half ∷ range.Half ∷ []) (take 2 (drop (count - 2) ws))) (length ws - count)) (length ws == count)) p
    ∙ eq-eqb (length ws) count long) in
    subst (λ l. arguments_say name (map signed_decimal zs ++ texel_words l) ≡ Ok (statement name zs l)) (sym e)
    (counted_says name zs [] (statement name zs []) r v counted refl)

rest_counted : (area : ℕ) (sides : List ℤ) (ts : List ℕ) → picture_area sides ≡ area → length ts ≡ 4 * area → is_rest_count (Some sides) (length (texel_words ts)) ≡ true
rest_counted area sides [] a e = ap (λ b. cond b (0 == 0) (0 == 1)) (eq-eqb (picture_area sides) 0 (a ∙ omega arith))
rest_counted area sides (b ∷ ts) a e = ap (λ t. cond t (1 == 0) (1 == 1)) (ne_eqb (picture_area sides) 0 (λ z. omega (arith, sym a ∙ z, e)))

picture_says : (name : LineName) (zs sides : List ℤ) (ts : List ℕ) (area : ℕ) → line_has_picture name ≡ true → has_version name zs ≡ true → AllReady (line_ranges name) zs
    → numbers_of (range.Half ∷ range.Half ∷ []) (take 2 (drop (length (line_ranges name) - 2) (map signed_decimal zs ++ texel_words ts))) ≡ Some sides
    → picture_area sides ≡ area → picture_area zs ≡ area → length ts ≡ 4 * area → AreBytes ts
    → arguments_say name (map signed_decimal zs ++ texel_words ts) ≡ Ok (statement name zs ts)
picture_says name zs sides ts area p v r s a b e h =
    let count = length (line_ranges name) in
    let tw = texel_words ts in
    let ws = map signed_decimal zs ++ tw in
    let front : length (map signed_decimal zs) ≡ count = length-map zs signed_decimal ∙ ready_length (line_ranges name) zs r in
    let whole : length ws ≡ count + length tw = length-append (map signed_decimal zs) tw ∙ ap (λ n. n + length tw) front in
    let rest : length ws - count ≡ length tw = omega (arith, whole) in
    let counted : is_counted name ws ≡ true =
    and_from _ _ (le-leb count (length ws) (omega (arith, whole)))
    (ap (λ t. cond t (is_rest_count (numbers_of (range.Half ∷ range.Half ∷ []) (take 2 (drop (count - 2) ws))) (length ws - count)) (length ws == count)) p
    ∙ (λ i. is_rest_count (s i) (rest i))
    ∙ rest_counted area sides ts a e) in
    counted_says name zs tw (statement name zs ts) r v counted (texels_back name zs ts area b e h)

pub command_says : (c : Command) → IsCommand c
    → arguments_say (line.Command (opcode_of c)) (argument_words (command_statement c)) ≡ Ok (command_statement c)
command_says (cmd.TexImage name w h ts) k =
    subst (λ l. arguments_say (line.Command op.TexImage) (map signed_decimal (pos name ∷ pos w ∷ pos h ∷ []) ++ texel_words l) ≡ Ok (statement (line.Command op.TexImage) (pos name ∷ pos w ∷ pos h ∷ []) l))
    (sym (append-nil ts))
    (picture_says (line.Command op.TexImage) (pos name ∷ pos w ∷ pos h ∷ []) (pos w ∷ pos h ∷ []) ts (w * h) refl refl
    (ready_fields (kinds_of op.TexImage) (fields_of (cmd.TexImage name w h ts)) k)
    (numbers_back (range.Half ∷ range.Half ∷ []) (pos w ∷ pos h ∷ []) (ready_half w k.1.0.0, (ready_half h k.1.0.1, tt))) refl refl k.1.0.2 k.1.0.3)
command_says (cmd.TexPart p) k =
    subst (λ l. arguments_say (line.Command op.TexPart) (map signed_decimal (pos p.name ∷ pos p.x ∷ pos p.y ∷ pos p.w ∷ pos p.h ∷ []) ++ texel_words l) ≡ Ok (statement (line.Command op.TexPart) (pos p.name ∷ pos p.x ∷ pos p.y ∷ pos p.w ∷ pos p.h ∷ []) l))
    (sym (append-nil p.texels))
    (picture_says (line.Command op.TexPart) (pos p.name ∷ pos p.x ∷ pos p.y ∷ pos p.w ∷ pos p.h ∷ []) (pos p.w ∷ pos p.h ∷ []) p.texels (p.w * p.h) refl refl
    (ready_fields (kinds_of op.TexPart) (fields_of (cmd.TexPart p)) k)
    (numbers_back (range.Half ∷ range.Half ∷ []) (pos p.w ∷ pos p.h ∷ []) (ready_half p.w k.1.1.1.0.0, (ready_half p.h k.1.1.1.0.1, tt))) refl refl k.1.1.1.0.2 k.1.1.1.0.3)
command_says (cmd.SharedImage p) k =
    subst (λ l. arguments_say (line.Command op.SharedImage) (map signed_decimal (pos p.name ∷ pos p.x ∷ pos p.y ∷ pos p.w ∷ pos p.h ∷ []) ++ texel_words l) ≡ Ok (statement (line.Command op.SharedImage) (pos p.name ∷ pos p.x ∷ pos p.y ∷ pos p.w ∷ pos p.h ∷ []) l))
    (sym (append-nil p.texels))
    (picture_says (line.Command op.SharedImage) (pos p.name ∷ pos p.x ∷ pos p.y ∷ pos p.w ∷ pos p.h ∷ []) (pos p.w ∷ pos p.h ∷ []) p.texels (p.w * p.h) refl refl
    (ready_fields (kinds_of op.SharedImage) (fields_of (cmd.SharedImage p)) k)
    (numbers_back (range.Half ∷ range.Half ∷ []) (pos p.w ∷ pos p.h ∷ []) (ready_half p.w k.1.1.1.0.0, (ready_half p.h k.1.1.1.0.1, tt))) refl refl k.1.1.1.0.2 k.1.1.1.0.3)
command_says c k =
    plain_says (line.Command (opcode_of c)) (field_numbers (kinds_of (opcode_of c)) (fields_of c)) [] refl refl (ready_fields (kinds_of (opcode_of c)) (fields_of c) k) refl

-- ---- names

command_name_back : (o : Opcode) → name_of (word_of (line.Command o)) ≡ Some (line.Command o)
unfolding name_of
command_name_back = same_for_each (λ o. name_of (word_of (line.Command o))) (λ o. Some (line.Command o)) refl

pub name_back : (n : LineName) → name_of (word_of n) ≡ Some n
unfolding name_of
name_back line.Scene = refl
name_back line.Shared = refl
name_back line.Barrier = refl
name_back line.Semaphore = refl
name_back line.Client = refl
name_back (line.Command o) = command_name_back o

pub command_ready : (c : Command) → IsCommand c → AllReady (line_ranges (line.Command (opcode_of c))) (command_statement c).numbers
command_ready c h = ready_fields (kinds_of (opcode_of c)) (fields_of c) h

none : AreBytes []
none i = omega arith

bytes_value : (k : Kind) (x : Value k) → IsValue k x → AreBytes (value_texels k x)
bytes_value Byte n h = none
bytes_value Half n h = none
bytes_value Word z h = none
bytes_value (Code count) n h = none
bytes_value (Bytes count) ns h = none
bytes_value (Words count) zs h = none
bytes_value Image p h = h.3

bytes_fields : (ks : List Kind) (x : Fields ks) → AreValues ks x → AreBytes (field_texels ks x)
bytes_fields [] x h = none
bytes_fields (k ∷ ks) x h = AreBytes-both (value_texels k x.0) (field_texels ks x.1) (bytes_value k x.0 h.0) (bytes_fields ks x.1 h.1)

pub command_bytes : (c : Command) → IsCommand c → AreBytes (command_statement c).texels
command_bytes c h = bytes_fields (kinds_of (opcode_of c)) (fields_of c) h

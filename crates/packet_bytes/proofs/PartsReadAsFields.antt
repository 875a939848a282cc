-- Reading the parts of a command is reading its fields.
use Rattle.std.proofs.Common.{◌≡◌, ℕ, ℤ, zero, suc, ◌*◌, ◌^◌, ◌≤◌, ◌-◌, Bool, true, false, cond, ltb, List, [], ◌∷◌, length, map, take, drop, replicate, Result, Ok, Err, pos, unsigned_abs, refl, sym, ap, subst, ◌∙◌, append-nil, arith, negsuc}
use Rattle.std.specs.Int.{w16}
use Rattle.std.specs.List.{flat_map}
use Rattle.std.proofs.lemmas.Bool.{lt-ltb, ltb-true, ltb-false}
use Rattle.rc_base.specs.declared.command.Command.{Command}
use Rattle.rc_base.specs.declared.command.Opcode.{Opcode}
use Rattle.rc_base.specs.declared.command.NumberRange.{NumberRange}
use Rattle.rc_base.specs.declared.command.NumberRange.TheVariants as range
use Rattle.rc_base.specs.Numbers.{entry}
use Rattle.rc_base.specs.Formats.Commands.{Kind, Fields, AreBytes, kinds_of, is_in_range, picture_area, command_parts, kind_ranges, ranges_of, has_picture, ends_in_picture, field_numbers, field_texels, parts_of}
use Rattle.rc_base.specs.Formats.Commands.Kind.{Byte, Half, Word, Code, Bytes, Words, Image}
use Rattle.std.proofs.Math.Nat.{mul-le-mul_right}
use Rattle.command_table.specs.Making.{command_from}
use Rattle.command_table.specs.Ranges.{AreIn}
use Rattle.command_table.proofs.NumbersInRange.{byte_in, half_in, word_in, half_typed, length_in}
use Rattle.command_table.proofs.FieldsAndParts.{leads_singly, leads, parts_made, same_parts}
use Rattle.byte_codec.specs.declared.fault.Form.{Form}
use Rattle.byte_codec.specs.declared.fault.Form.TheVariants.{Truncated}
use Rattle.byte_codec.specs.declared.fault.ReadError.{ReadError}
use Rattle.byte_codec.specs.declared.fault.ReadError.TheVariants as errors
use Rattle.byte_codec.specs.Reading.{◌>>=◌, Fails, both, convert, cons, read_byte, read_unsigned, read_word, read_words, take_bytes}
use Rattle.packet_bytes.specs.Packets.{make_picture, read_value, read_fields, read_command}
use Rattle.byte_codec.specs.Codec.{Maker, AreBytes-behind}
use Rattle.byte_codec.specs.NumberCodecs.{byte_codec, number_codec, wide16, word_codec}
use Rattle.packet_bytes.specs.Parts.{read_number, read_numbers, texel_count, read_parts}

-- ---- runs

ltb_off : (a b : ℕ) → b ≤ a → ltb a b ≡ false
ltb_off a b h = go (ltb a b) refl
  where
    go : (t : Bool) → ltb a b ≡ t → t ≡ false
    go true e = absurd (omega (arith, h, ltb-true a b e))
    go false e = refl

run_none : (bytes : List ℕ) → take_bytes 0 bytes ≡ Ok ([], bytes)
run_none bytes = rw (ltb_off (length bytes) 0 (omega arith)) refl

shift_test : (a b : ℕ) → ltb (suc a) (suc b) ≡ ltb a b
shift_test a b = go (ltb a b) refl
  where
    go : (t : Bool) → ltb a b ≡ t → ltb (suc a) (suc b) ≡ t
    go true e = lt-ltb (suc a) (suc b) (omega (arith, ltb-true a b e))
    go false e = ltb_off (suc a) (suc b) (omega (arith, ltb-false a b e))

abbrev put_first : {A : Type 0} → A → List A × List ℕ → Result (List A × List ℕ) Form
put_first a x = Ok (a ∷ x.0, x.1)

abbrev chosen : Bool → List ℕ × List ℕ → Result (List ℕ × List ℕ) Form
chosen t x = cond t (Err Truncated) (Ok x)

chosen_more : (b : ℕ) (t : Bool) (x : List ℕ × List ℕ) → chosen t (b ∷ x.0, x.1) ≡ (chosen t x >>= put_first b)
chosen_more b true x = refl
chosen_more b false x = refl

-- a byte, and then a run of bytes
run_more : (n : ℕ) (b : ℕ) (bytes : List ℕ) → take_bytes (suc n) (b ∷ bytes) ≡ (take_bytes n bytes >>= put_first b)
run_more n b bytes =
    ap (λ t. chosen t (b ∷ take n bytes, drop n bytes)) (shift_test (length bytes) n) ∙ chosen_more b (ltb (length bytes) n) (take n bytes, drop n bytes)

run_short : (n : ℕ) → take_bytes (suc n) [] ≡ Err Truncated
run_short n = ap (λ t. chosen t (take (suc n) [], drop (suc n) [])) (lt-ltb 0 (suc n) (omega arith))

-- ---- bytes and words

abbrev pair_up : {A B : Type 0} → A → B × List ℕ → Result ((A × B) × List ℕ) Form
pair_up a y = Ok ((a, y.0), y.1)

abbrev join : (ℤ × List ℤ) × List ℕ → Result (List ℤ × List ℕ) Form
join x = Ok (cons x.0, x.1)

abbrev counted : List ℕ × List ℕ → Result (List ℤ × List ℕ) Form
counted x = Ok (map pos x.0, x.1)

grouped : (z : ℤ) (r : Result (List ℤ × List ℕ) Form) → ((r >>= pair_up z) >>= join) ≡ (r >>= put_first z)
grouped z (Ok y) = refl
grouped z (Err e) = refl

counted_run : (b : ℕ) (r : Result (List ℕ × List ℕ) Form) → ((r >>= counted) >>= put_first (pos b)) ≡ ((r >>= put_first b) >>= counted)
counted_run b (Ok x) = refl
counted_run b (Err e) = refl

bytes_read : (n : ℕ) (bytes : List ℕ) → read_numbers (replicate n range.Byte) bytes ≡ convert (map pos) (take_bytes n) bytes
unfolding read_numbers
bytes_read zero bytes = sym (ap (λ r. r >>= counted) (run_none bytes))
bytes_read (suc n) [] = sym (ap (λ r. r >>= counted) (run_short n))
bytes_read (suc n) (b ∷ bytes) =
    grouped (pos b) (read_numbers (replicate n range.Byte) bytes)
    ∙ ap (λ r. r >>= put_first (pos b)) (bytes_read n bytes)
    ∙ counted_run b (take_bytes n bytes)
    ∙ ap (λ r. r >>= counted) (sym (run_more n b bytes))

abbrev then_numbers : (List ℕ → Result (List ℤ × List ℕ) Form) → ℤ × List ℕ → Result ((ℤ × List ℤ) × List ℕ) Form
then_numbers q x = q x.1 >>= pair_up x.0

word_first : (n : ℕ) (r : Result (ℤ × List ℕ) Form) → ((bytes : List ℕ) → read_numbers (replicate n range.Word) bytes ≡ read_words n bytes)
    → ((r >>= then_numbers (read_numbers (replicate n range.Word))) >>= join) ≡ ((r >>= then_numbers (read_words n)) >>= join)
word_first n (Ok x) same = ap (λ r. (r >>= pair_up x.0) >>= join) (same x.1)
word_first n (Err e) same = refl

words_read : (n : ℕ) (bytes : List ℕ) → read_numbers (replicate n range.Word) bytes ≡ read_words n bytes
unfolding read_numbers read_words
words_read zero bytes = refl
words_read (suc n) bytes = word_first n (read_word bytes) (words_read n)

-- ---- a field of one number, and then the others

abbrev Parts : Type 0
Parts = (List ℤ × List ℕ) × List ℕ

abbrev with_number : ℤ → Parts → Result Parts Form
with_number z w = Ok ((z ∷ w.0.0, w.0.1), w.1)

long_after : (rs : List NumberRange) (z : ℤ) (n : Result (List ℤ × List ℕ) Form) (zs : List ℤ) (rest : List ℕ) → ((ys : List ℤ) (b : List ℕ) → n ≡ Ok (ys, b) → length ys ≡ length rs)
    → ((n >>= pair_up z) >>= join) ≡ Ok (zs, rest) → length zs ≡ suc (length rs)
long_after rs z (Err f) zs rest long e = absurd cc
long_after rs z (Ok y) zs rest long e =
    let same : (let v : List ℤ × List ℕ = (z ∷ y.0, y.1) in v) ≡ (zs, rest) = cc in
    sym (ap (λ (v : List ℤ × List ℕ). length v.0) same) ∙ ap suc (long y.0 y.1 refl)

long_first : (rs : List NumberRange) (n : Result (ℤ × List ℕ) Form) (zs : List ℤ) (rest : List ℕ)
    → ((bytes : List ℕ) (ys : List ℤ) (b : List ℕ) → read_numbers rs bytes ≡ Ok (ys, b) → length ys ≡ length rs)
    → ((n >>= then_numbers (read_numbers rs)) >>= join) ≡ Ok (zs, rest) → length zs ≡ suc (length rs)
long_first rs (Err f) zs rest long e = absurd cc
long_first rs (Ok x) zs rest long e = long_after rs x.0 (read_numbers rs x.1) zs rest (long x.1) e

pub numbers_long : (rs : List NumberRange) (bytes : List ℕ) (zs : List ℤ) (rest : List ℕ) → read_numbers rs bytes ≡ Ok (zs, rest) → length zs ≡ length rs
unfolding read_numbers
numbers_long [] bytes zs rest e =
    let same : (let v : List ℤ × List ℕ = ([], bytes) in v) ≡ (zs, rest) = cc in
    sym (ap (λ (v : List ℤ × List ℕ). length v.0) same)
numbers_long (r ∷ rs) bytes zs rest e = long_first rs (read_number r bytes) zs rest (numbers_long rs) e

-- ---- the texels behind the numbers

abbrev with_texels : List ℤ → List ℕ × List ℕ → Result Parts Form
with_texels zs t = Ok ((zs, t.0), t.1)

abbrev then_texels : Bool → List ℤ × List ℕ → Result Parts Form
then_texels pictured n = take_bytes (texel_count pictured n.0) n.1 >>= with_texels n.0

-- one number more in front changes no sides
same_count : (pictured : Bool) (z : ℤ) (zs : List ℤ) → (pictured ≡ true → 2 ≤ length zs) → texel_count pictured (z ∷ zs) ≡ texel_count pictured zs
same_count false z zs h = refl
same_count true z zs h =
    let two = h refl in
    let a : suc (length zs) - 2 ≡ suc (length zs - 2) = omega (arith, two) in
    let b : suc (length zs) - 1 ≡ suc (length zs - 1) = omega (arith, two) in
    λ i. 4 * (unsigned_abs (entry (z ∷ zs) (a i)) * unsigned_abs (entry (z ∷ zs) (b i)))

texels_put : (z : ℤ) (zs : List ℤ) (r : Result (List ℕ × List ℕ) Form) → (r >>= with_texels (z ∷ zs)) ≡ ((r >>= with_texels zs) >>= with_number z)
texels_put z zs (Ok t) = refl
texels_put z zs (Err e) = refl

behind_one : (pictured : Bool) (z : ℤ) (n : Result (List ℤ × List ℕ) Form) → ((ys : List ℤ) (b : List ℕ) → n ≡ Ok (ys, b) → pictured ≡ true → 2 ≤ length ys)
    → (((n >>= pair_up z) >>= join) >>= then_texels pictured) ≡ ((n >>= then_texels pictured) >>= with_number z)
behind_one pictured z (Err f) h = refl
behind_one pictured z (Ok y) h =
    ap (λ (k : ℕ). take_bytes k y.1 >>= with_texels (z ∷ y.0)) (same_count pictured z y.0 (h y.0 y.1 refl))
    ∙ texels_put z y.0 (take_bytes (texel_count pictured y.0) y.1)

abbrev made_by : {A B : Type 0} → (A → B) → A × List ℕ → Result (B × List ℕ) Form
made_by f x = Ok (f x.0, x.1)

abbrev joined : {A X : Type 0} → (A → ℤ) → (X → List ℤ × List ℕ) → A × X → List ℤ × List ℕ
joined f t v = (f v.0 ∷ (t v.1).0, (t v.1).1)

regrouped : {A X : Type 0} (f : A → ℤ) (t : X → List ℤ × List ℕ) (a : A) (r : Result (X × List ℕ) Form)
    → ((r >>= made_by t) >>= with_number (f a)) ≡ ((r >>= pair_up a) >>= made_by (joined f t))
regrouped f t a (Ok y) = refl
regrouped f t a (Err e) = refl

module _ {A X : Type 0} (r : NumberRange) (rs : List NumberRange) (pictured : Bool) (p : List ℕ → Result (A × List ℕ) Form) (f : A → ℤ)
    (q : List ℕ → Result (X × List ℕ) Form) (t : X → List ℤ × List ℕ) (same : (b : List ℕ) → read_number r b ≡ convert f p b)
    (later : (b : List ℕ) → read_parts rs pictured b ≡ convert t q b) (two : pictured ≡ true → 2 ≤ length rs) where
  long_enough : (b : List ℕ) (ys : List ℤ) (rest : List ℕ) → read_numbers rs b ≡ Ok (ys, rest) → pictured ≡ true → 2 ≤ length ys
  long_enough b ys rest e is = let size = numbers_long rs b ys rest e in let most = two is in omega (arith, size, most)

  led : (n : Result (A × List ℕ) Form) → ((((n >>= made_by f) >>= then_numbers (read_numbers rs)) >>= join) >>= then_texels pictured)
      ≡ ((n >>= λ x. q x.1 >>= pair_up x.0) >>= made_by (joined f t))
  led (Err e) = refl
  led (Ok x) =
      behind_one pictured (f x.0) (read_numbers rs x.1) (long_enough x.1)
      ∙ ap (λ w. w >>= with_number (f x.0)) (later x.1)
      ∙ regrouped f t x.0 (q x.1)

  lead : (bytes : List ℕ) → read_parts (r ∷ rs) pictured bytes ≡ convert (joined f t) (both p q) bytes
  unfolding read_numbers
  lead bytes = ap (λ n. ((n >>= then_numbers (read_numbers rs)) >>= join) >>= then_texels pictured) (same bytes) ∙ led (p bytes)

-- ---- the fields of a command

abbrev told : (ks : List Kind) → Fields ks → List ℤ × List ℕ
told ks x = (field_numbers ks x, field_texels ks x)

sides : (ks : List Kind) → leads_singly ks ≡ true → ends_in_picture ks ≡ true → 2 ≤ length (flat_map kind_ranges ks)
sides [] e p = absurd cc
sides (Byte ∷ []) e p = absurd cc
sides (Half ∷ []) e p = absurd cc
sides (Word ∷ []) e p = absurd cc
sides (Code count ∷ []) e p = absurd cc
sides (Bytes count ∷ []) e p = absurd cc
sides (Words count ∷ []) e p = absurd cc
sides (Image ∷ []) e p = omega arith
sides (Byte ∷ (l ∷ ks)) e p = let h = sides (l ∷ ks) e p in omega (arith, h)
sides (Half ∷ (l ∷ ks)) e p = let h = sides (l ∷ ks) e p in omega (arith, h)
sides (Word ∷ (l ∷ ks)) e p = let h = sides (l ∷ ks) e p in omega (arith, h)
sides (Code count ∷ (l ∷ ks)) e p = let h = sides (l ∷ ks) e p in omega (arith, h)
sides (Bytes count ∷ (l ∷ ks)) e p = absurd cc
sides (Words count ∷ (l ∷ ks)) e p = absurd cc
sides (Image ∷ (l ∷ ks)) e p = absurd cc

no_picture : {n : ℕ} → false ≡ true → 2 ≤ n
no_picture e = absurd cc

as_it_is : (r : Result (ℤ × List ℕ) Form) → r ≡ (r >>= made_by (λ z. z))
as_it_is (Ok x) = refl
as_it_is (Err e) = refl

no_texels : (zs : List ℤ) (bytes : List ℕ) → (take_bytes 0 bytes >>= with_texels zs) ≡ Ok ((zs, []), bytes)
no_texels zs bytes = ap (λ r. r >>= with_texels zs) (run_none bytes)

abbrev pair_up_none : {A : Type 0} → A × List ℕ → Result ((A × Unit {0}) × List ℕ) Form
pair_up_none x = Ok ((x.0, tt), x.1)

last_bytes : (count : ℕ) (r : Result (List ℕ × List ℕ) Form) → ((r >>= counted) >>= then_texels false) ≡ ((r >>= pair_up_none) >>= made_by (told (Bytes count ∷ [])))
last_bytes count (Err e) = refl
last_bytes count (Ok x) = no_texels (map pos x.0) x.1 ∙ ap (λ (l : List ℤ). Ok ((l, []), x.1)) (sym (append-nil (map pos x.0)))

last_words : (count : ℕ) (r : Result (List ℤ × List ℕ) Form) → (r >>= then_texels false) ≡ ((r >>= pair_up_none) >>= made_by (told (Words count ∷ [])))
last_words count (Err e) = refl
last_words count (Ok x) = no_texels x.0 x.1 ∙ ap (λ (l : List ℤ). Ok ((l, []), x.1)) (sym (append-nil x.0))

picture_third : (w h : ℕ) (r : Result (List ℕ × List ℕ) Form)
    → (r >>= with_texels (pos w ∷ (pos h ∷ []))) ≡ ((((r >>= pair_up (w, h)) >>= made_by make_picture) >>= pair_up_none) >>= made_by (told (Image ∷ [])))
picture_third w h (Err e) = refl
picture_third w h (Ok t) = ap (λ (l : List ℕ). Ok ((pos w ∷ (pos h ∷ []), l), t.1)) (sym (append-nil t.0))

abbrev sized_run : (ℕ × ℕ) × List ℕ → Result ((((ℕ × ℕ) × List ℕ)) × List ℕ) Form
sized_run s = take_bytes (4 * (s.0.0 * s.0.1)) s.1 >>= pair_up s.0

picture_second : (w : ℕ) (r : Result (ℕ × List ℕ) Form)
    → ((((((r >>= made_by pos) >>= then_numbers (read_numbers [])) >>= join) >>= pair_up (pos w)) >>= join) >>= then_texels true)
    ≡ (((((r >>= pair_up w) >>= sized_run) >>= made_by make_picture) >>= pair_up_none) >>= made_by (told (Image ∷ [])))
unfolding read_numbers
picture_second w (Err e) = refl
picture_second w (Ok y) = picture_third w y.0 (take_bytes (4 * (w * y.0)) y.1)

abbrev then_half : ℕ × List ℕ → Result ((ℕ × ℕ) × List ℕ) Form
then_half x = read_unsigned w16 x.1 >>= pair_up x.0

picture_first : (r : Result (ℕ × List ℕ) Form)
    → ((((r >>= made_by pos) >>= then_numbers (read_numbers (range.Half ∷ []))) >>= join) >>= then_texels true)
    ≡ (((((r >>= then_half) >>= sized_run) >>= made_by make_picture) >>= pair_up_none) >>= made_by (told (Image ∷ [])))
unfolding read_numbers
picture_first (Err e) = refl
picture_first (Ok x) = picture_second x.0 (read_unsigned w16 x.1)

fields_read : (ks : List Kind) → leads_singly ks ≡ true → (bytes : List ℕ) → read_parts (flat_map kind_ranges ks) (ends_in_picture ks) bytes ≡ convert (told ks) (read_fields ks) bytes
unfolding read_numbers read_fields read_value
fields_read [] e bytes = no_texels [] bytes
fields_read (Byte ∷ []) e bytes = lead range.Byte [] false read_byte pos (read_fields []) (told []) (λ b. refl) (fields_read [] refl) no_picture bytes
fields_read (Half ∷ []) e bytes = lead range.Half [] false (read_unsigned w16) pos (read_fields []) (told []) (λ b. refl) (fields_read [] refl) no_picture bytes
fields_read (Word ∷ []) e bytes = lead range.Word [] false read_word (λ z. z) (read_fields []) (told []) (λ b. as_it_is (read_word b)) (fields_read [] refl) no_picture bytes
fields_read (Code count ∷ []) e bytes = lead range.Byte [] false read_byte pos (read_fields []) (told []) (λ b. refl) (fields_read [] refl) no_picture bytes
fields_read (Bytes count ∷ []) e bytes =
    ap (λ rs. read_parts rs false bytes) (append-nil (replicate count range.Byte))
    ∙ ap (λ r. r >>= then_texels false) (bytes_read count bytes)
    ∙ last_bytes count (take_bytes count bytes)
fields_read (Words count ∷ []) e bytes =
    ap (λ rs. read_parts rs false bytes) (append-nil (replicate count range.Word))
    ∙ ap (λ r. r >>= then_texels false) (words_read count bytes)
    ∙ last_words count (read_words count bytes)
fields_read (Image ∷ []) e bytes = picture_first (read_unsigned w16 bytes)
fields_read (Byte ∷ (l ∷ ks)) e bytes =
    lead range.Byte (flat_map kind_ranges (l ∷ ks)) (ends_in_picture (l ∷ ks)) read_byte pos (read_fields (l ∷ ks)) (told (l ∷ ks)) (λ b. refl) (fields_read (l ∷ ks) e) (sides (l ∷ ks) e) bytes
fields_read (Half ∷ (l ∷ ks)) e bytes =
    lead range.Half (flat_map kind_ranges (l ∷ ks)) (ends_in_picture (l ∷ ks)) (read_unsigned w16) pos (read_fields (l ∷ ks)) (told (l ∷ ks)) (λ b. refl) (fields_read (l ∷ ks) e) (sides (l ∷ ks) e) bytes
fields_read (Word ∷ (l ∷ ks)) e bytes =
    lead range.Word (flat_map kind_ranges (l ∷ ks)) (ends_in_picture (l ∷ ks)) read_word (λ z. z) (read_fields (l ∷ ks)) (told (l ∷ ks)) (λ b. as_it_is (read_word b)) (fields_read (l ∷ ks) e) (sides (l ∷ ks) e) bytes
fields_read (Code count ∷ (l ∷ ks)) e bytes =
    lead range.Byte (flat_map kind_ranges (l ∷ ks)) (ends_in_picture (l ∷ ks)) read_byte pos (read_fields (l ∷ ks)) (told (l ∷ ks)) (λ b. refl) (fields_read (l ∷ ks) e) (sides (l ∷ ks) e) bytes
fields_read (Bytes count ∷ (l ∷ ks)) e bytes = absurd cc
fields_read (Words count ∷ (l ∷ ks)) e bytes = absurd cc
fields_read (Image ∷ (l ∷ ks)) e bytes = absurd cc

-- ---- the numbers that are read lie in their ranges

abbrev IsRead : NumberRange → ℤ → List ℕ → Type 0
IsRead r z rest = (is_in_range r z ≡ true) × AreBytes rest

module _ {A : Type 0} {p : List ℕ → Result (A × List ℕ) Form} {spell : A → List ℕ} {Fit : A → Type 0} (maker : Maker p spell Fit) (f : A → ℤ) (r : NumberRange)
    (inside : (a : A) → Fit a → is_in_range r (f a) ≡ true) (bytes : List ℕ) (fits : AreBytes bytes) (z : ℤ) (rest : List ℕ) where
  taken : (n : Result (A × List ℕ) Form) → p bytes ≡ n → (n >>= made_by f) ≡ Ok (z, rest) → IsRead r z rest
  taken (Err e) q h = absurd cc
  taken (Ok a) q h =
      let same : (let v : ℤ × List ℕ = (f a.0, a.1) in v) ≡ (z, rest) = cc in
      let took = maker.takes bytes a.0 a.1 fits q in
      subst (λ (v : ℤ × List ℕ). IsRead r v.0 v.1) same (inside a.0 took.1, AreBytes-behind (spell a.0) a.1 (subst AreBytes took.0 fits))

number_fits : (r : NumberRange) (bytes : List ℕ) → AreBytes bytes → (z : ℤ) (rest : List ℕ) → read_number r bytes ≡ Ok (z, rest) → IsRead r z rest
number_fits range.Byte bytes fits z rest e = taken byte_codec.maker pos range.Byte byte_in bytes fits z rest (read_byte bytes) refl e
number_fits range.Half bytes fits z rest e = taken (number_codec w16 (2 ^ 16) wide16).maker pos range.Half half_in bytes fits z rest (read_unsigned w16 bytes) refl e
number_fits range.Word bytes fits z rest e =
    taken word_codec.maker (λ w. w) range.Word word_in bytes fits z rest (read_word bytes) refl (sym (as_it_is (read_word bytes)) ∙ e)

fit_after : (r : NumberRange) (rs : List NumberRange) (z : ℤ) → is_in_range r z ≡ true → (zs : List ℤ) (rest : List ℕ) (n : Result (List ℤ × List ℕ) Form)
    → ((ys : List ℤ) (b : List ℕ) → n ≡ Ok (ys, b) → AreIn rs ys) → ((n >>= pair_up z) >>= join) ≡ Ok (zs, rest) → AreIn (r ∷ rs) zs
fit_after r rs z inside zs rest (Err f) later e = absurd cc
fit_after r rs z inside zs rest (Ok y) later e =
    let same : (let v : List ℤ × List ℕ = (z ∷ y.0, y.1) in v) ≡ (zs, rest) = cc in
    subst (λ (v : List ℤ × List ℕ). AreIn (r ∷ rs) v.0) same (inside, later y.0 y.1 refl)

fit_first : (r : NumberRange) (rs : List NumberRange) (zs : List ℤ) (rest : List ℕ) (n : Result (ℤ × List ℕ) Form)
    → ((z : ℤ) (b : List ℕ) → n ≡ Ok (z, b) → IsRead r z b)
    → ((b : List ℕ) → AreBytes b → (ys : List ℤ) (c : List ℕ) → read_numbers rs b ≡ Ok (ys, c) → AreIn rs ys)
    → ((n >>= then_numbers (read_numbers rs)) >>= join) ≡ Ok (zs, rest) → AreIn (r ∷ rs) zs
fit_first r rs zs rest (Err f) one later e = absurd cc
fit_first r rs zs rest (Ok x) one later e =
    let first = one x.0 x.1 refl in
    fit_after r rs x.0 first.0 zs rest (read_numbers rs x.1) (later x.1 first.1) e

pub numbers_fit : (rs : List NumberRange) (bytes : List ℕ) → AreBytes bytes → (zs : List ℤ) (rest : List ℕ) → read_numbers rs bytes ≡ Ok (zs, rest) → AreIn rs zs
unfolding read_numbers
numbers_fit [] bytes fits zs rest e =
    let same : (let v : List ℤ × List ℕ = ([], bytes) in v) ≡ (zs, rest) = cc in
    subst (λ (v : List ℤ × List ℕ). AreIn [] v.0) same tt
numbers_fit (r ∷ rs) bytes fits zs rest e = fit_first r rs zs rest (read_number r bytes) (number_fits r bytes fits) (numbers_fit rs) e

-- ---- the sides of a picture

abbrev AreSides : List ℤ → ℕ → ℕ → Type 0
AreSides zs i j = (is_in_range range.Half (entry zs i) ≡ true) × (is_in_range range.Half (entry zs j) ≡ true)

last_sides : (zs : List ℤ) → AreIn (range.Half ∷ range.Half ∷ []) zs → AreSides zs (length zs - 2) (length zs - 1)
last_sides [] h = absurd h
last_sides (w ∷ []) h = absurd h.1
last_sides (w ∷ (v ∷ [])) h = (h.0, h.1.0)
last_sides (w ∷ (v ∷ (z ∷ zs))) h = absurd h.1.1

one_later : (rs : List NumberRange) (z : ℤ) (zs : List ℤ) → 2 ≤ length rs → AreIn rs zs → AreSides zs (length zs - 2) (length zs - 1)
    → AreSides (z ∷ zs) (length (z ∷ zs) - 2) (length (z ∷ zs) - 1)
one_later rs z zs two h are =
    let size = length_in rs zs h in
    let a : suc (length zs - 2) ≡ suc (length zs) - 2 = omega (arith, size, two) in
    let b : suc (length zs - 1) ≡ suc (length zs) - 1 = omega (arith, size, two) in
    subst (AreSides (z ∷ zs) (suc (length zs) - 2)) b (subst (λ i. AreSides (z ∷ zs) i (suc (length zs - 1))) a are)

sides_in : (ks : List Kind) → leads_singly ks ≡ true → ends_in_picture ks ≡ true → (zs : List ℤ) → AreIn (flat_map kind_ranges ks) zs → AreSides zs (length zs - 2) (length zs - 1)
sides_in [] e p zs h = absurd cc
sides_in (Byte ∷ []) e p zs h = absurd cc
sides_in (Half ∷ []) e p zs h = absurd cc
sides_in (Word ∷ []) e p zs h = absurd cc
sides_in (Code count ∷ []) e p zs h = absurd cc
sides_in (Bytes count ∷ []) e p zs h = absurd cc
sides_in (Words count ∷ []) e p zs h = absurd cc
sides_in (Image ∷ []) e p zs h = last_sides zs h
sides_in (Byte ∷ (l ∷ ks)) e p [] h = absurd h
sides_in (Byte ∷ (l ∷ ks)) e p (z ∷ zs) h = one_later (flat_map kind_ranges (l ∷ ks)) z zs (sides (l ∷ ks) e p) h.1 (sides_in (l ∷ ks) e p zs h.1)
sides_in (Half ∷ (l ∷ ks)) e p [] h = absurd h
sides_in (Half ∷ (l ∷ ks)) e p (z ∷ zs) h = one_later (flat_map kind_ranges (l ∷ ks)) z zs (sides (l ∷ ks) e p) h.1 (sides_in (l ∷ ks) e p zs h.1)
sides_in (Word ∷ (l ∷ ks)) e p [] h = absurd h
sides_in (Word ∷ (l ∷ ks)) e p (z ∷ zs) h = one_later (flat_map kind_ranges (l ∷ ks)) z zs (sides (l ∷ ks) e p) h.1 (sides_in (l ∷ ks) e p zs h.1)
sides_in (Code count ∷ (l ∷ ks)) e p [] h = absurd h
sides_in (Code count ∷ (l ∷ ks)) e p (z ∷ zs) h = one_later (flat_map kind_ranges (l ∷ ks)) z zs (sides (l ∷ ks) e p) h.1 (sides_in (l ∷ ks) e p zs h.1)
sides_in (Bytes count ∷ (l ∷ ks)) e p zs h = absurd cc
sides_in (Words count ∷ (l ∷ ks)) e p zs h = absurd cc
sides_in (Image ∷ (l ∷ ks)) e p zs h = absurd cc

half_abs : (z : ℤ) → is_in_range range.Half z ≡ true → unsigned_abs z ≤ 65535
half_abs (pos n) e = let h = half_typed n e in omega (arith, h)
half_abs (negsuc n) e = absurd cc

-- width times height of a picture
pub area_most : (o : Opcode) → has_picture o ≡ true → (zs : List ℤ) → AreIn (ranges_of o) zs → picture_area zs ≤ 4294836225
area_most o p zs h =
    let are = sides_in (kinds_of o) (leads o) p zs h in
    let w = unsigned_abs (entry zs (length zs - 2)) in
    let v = unsigned_abs (entry zs (length zs - 1)) in
    let left : w * v ≤ 65535 * v = mul-le-mul_right v (half_abs (entry zs (length zs - 2)) are.0) in
    let right : 65535 * v ≤ 4294836225 = omega (arith, half_abs (entry zs (length zs - 1)) are.1) in
    omega (arith, left, right)

-- ---- the command

pub command_done : (o : Opcode) (bytes middle rest : List ℕ) (numbers : List ℤ) (texels : List ℕ) (c : Command)
    → read_numbers (ranges_of o) bytes ≡ Ok (numbers, middle)
    → take_bytes (texel_count (has_picture o) numbers) middle ≡ Ok (texels, rest)
    → parts_of c ≡ command_parts o numbers texels → read_command o bytes ≡ Ok (c, rest)
unfolding read_command
command_done o bytes middle rest numbers texels c n t says =
    let ks = kinds_of o in
    let pictured = has_picture o in
    let parts : read_parts (ranges_of o) pictured bytes ≡ Ok ((numbers, texels), rest) =
    ap (λ r. r >>= then_texels pictured) n ∙ ap (λ r. r >>= with_texels numbers) t in
    go (read_fields ks bytes) (sym (fields_read ks (leads o) bytes) ∙ parts)
  where
    go : (n : Result (Fields (kinds_of o) × List ℕ) Form) → (n >>= made_by (told (kinds_of o))) ≡ Ok ((numbers, texels), rest) → (n >>= made_by (command_from o)) ≡ Ok (c, rest)
    go (Err e) q = absurd cc
    go (Ok x) q =
        let same : (let v : Parts = (told (kinds_of o) x.0, x.1) in v) ≡ ((numbers, texels), rest) = cc in
        let is : command_from o x.0 ≡ c = same_parts (command_from o x.0) c (parts_made o x.0 ∙ (λ i. command_parts o (same i).0.0 (same i).0.1) ∙ sym says) in
        λ i. Ok (is i, (same i).1)

command_failed : (o : Opcode) (bytes : List ℕ) (f : Form) → read_parts (ranges_of o) (has_picture o) bytes ≡ Err f → read_command o bytes ≡ Err f
unfolding read_command
command_failed o bytes f h = go (read_fields (kinds_of o) bytes) (sym (fields_read (kinds_of o) (leads o) bytes) ∙ h)
  where
    go : (n : Result (Fields (kinds_of o) × List ℕ) Form) → (n >>= made_by (told (kinds_of o))) ≡ Err f → (n >>= made_by (command_from o)) ≡ Err f
    go (Err e) q = let same : e ≡ f = cc in ap Err same
    go (Ok x) q = absurd cc

pub numbers_failed : (o : Opcode) (bytes : List ℕ) (e : ReadError) → Fails e (read_numbers (ranges_of o) bytes) → Fails e (read_command o bytes)
numbers_failed o bytes errors.Memory h = tt
numbers_failed o bytes (errors.Form f) h = command_failed o bytes f (ap (λ r. r >>= then_texels (has_picture o)) h)

pub texels_failed : (o : Opcode) (bytes middle : List ℕ) (numbers : List ℤ) (e : ReadError) → read_numbers (ranges_of o) bytes ≡ Ok (numbers, middle)
    → Fails e (take_bytes (texel_count (has_picture o) numbers) middle) → Fails e (read_command o bytes)
texels_failed o bytes middle numbers errors.Memory n h = tt
texels_failed o bytes middle numbers (errors.Form f) n h =
    command_failed o bytes f (ap (λ r. r >>= then_texels (has_picture o)) n ∙ ap (λ r. r >>= with_texels numbers) h)

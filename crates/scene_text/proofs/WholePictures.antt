-- The pictures of a scene that a text spells.
use Rattle.std.proofs.Common.{◌≡◌, ℕ, suc, ◌+◌, ◌-◌, ◌*◌, ◌==◌, ◌&&◌, ℤ, pos, Bool, true, false, cond, List, [], ◌∷◌, ◌++◌, length, map, take, drop, Some, None, Ok, Err, refl, sym, ap, subst, arith, inl, inr, eqb-true}
use Rattle.std.proofs.lemmas.Bool.{leb-true, cases_Bool}
use Rattle.std.proofs.lemmas.List.{length-append}
use Rattle.std.proofs.Math.Dec.{leb}
use Rattle.std.specs.Prelude.{if◌then◌else◌, not}
use Rattle.std.specs.declared.option.Option.{Option}
use Rattle.std.specs.List.{flat_map, list_all, AllByRecursion}
use Rattle.std.specs.Option.{option_map}
use Rattle.std.specs.Str.Lines.{lines}
use Rattle.packet_bytes.specs.Texels.{HaveTexels, IsWhole}
use Rattle.std.proofs.lemmas.Bool.{and_parts}
use Rattle.rc_base.specs.Formats.Spelling.{IsVersion}
use Rattle.rc_base.specs.declared.command.Command.{Command}
use Rattle.rc_base.specs.declared.command.Opcode.{Opcode}
use Rattle.rc_base.specs.declared.command.Opcode.TheVariants as op
use Rattle.rc_base.specs.declared.scene.Scene.{Scene}
use Rattle.rc_base.specs.declared.scene.Decl.{Decl}
use Rattle.rc_base.specs.declared.scene.TextKind.TheVariants as kind
use Rattle.rc_base.specs.declared.text.LineName.{LineName}
use Rattle.rc_base.specs.declared.text.LineName.TheVariants as line
use Rattle.rc_base.specs.declared.command.NumberRange.TheVariants as range
use Rattle.rc_base.specs.Formats.Commands.{Kind, Fields, kinds_of, opcode_of, fields_of, is_picture, field_numbers, field_texels, picture_area}
use Rattle.rc_base.specs.Formats.Commands.Kind.{Byte, Half, Word, Code, Bytes, Words, Image}
use Rattle.rc_base.specs.Numbers.{is_between}
use Rattle.scene_text.specs.Text.Statements.{Statement, statement, line_ranges, command_statement, window_statement, decl_statements, client_statements, scene_statements}
use Rattle.scene_text.proofs.WhatWordsSay.{says_name}
use Rattle.scene_text.specs.Text.Read.{SpellsText, words_say, words_say_under, arguments_say, has_version, with_numbers, with_texels, with_first, or_fault, spelled_texels, hex_bytes, hex_pair, hex_value, is_counted, is_rest_count, name_of, numbers_of, reads_as, spoken}

-- ---- hexadecimal digits

first_is : (b : Option ℕ) (bs : Option (List ℕ)) (ts : List ℕ) → with_first b bs ≡ Some ts → (xs : List ℕ) × (bs ≡ Some xs) × (length ts ≡ suc (length xs))
first_is None bs ts e = absurd cc
first_is (Some x) None ts e = absurd cc
first_is (Some x) (Some xs) ts e = let same : x ∷ xs ≡ ts = cc in (xs, refl, ap length (sym same))

hex_length : (word ts : List ℕ) → hex_bytes word ≡ Some ts → length word ≡ 2 * length ts
hex_length [] [] e = refl
hex_length [] (t ∷ ts) e = absurd cc
hex_length (c ∷ []) ts e = absurd cc
hex_length (c ∷ (d ∷ cs)) ts e =
    let f = first_is (hex_pair (hex_value c) (hex_value d)) (hex_bytes cs) ts e in
    let rest = hex_length cs f.0 f.1 in
    omega (arith, rest, f.2)

texels_length : (area : ℕ) (word ts : List ℕ) → spelled_texels area word ≡ Some ts → length ts ≡ 4 * area
texels_length area word ts e =
    elim (cases_Bool (length word == 8 * area)) [
      | inl t ↦
          let bytes : hex_bytes word ≡ Some ts = rw t at e in
          let size = eqb-true (length word) (8 * area) t in
          let digits = hex_length word ts bytes in
          omega (arith, size, digits)
      | inr f ↦ let none = rw f at e in absurd cc
    ]

-- ---- a line with a picture

-- the texels that follow the numbers
read_texels : (name : LineName) (numbers zs : List ℤ) (ts : List ℕ) (o : Option (List ℕ)) → or_fault kind.BadHex (option_map (statement name numbers) o) ≡ Ok (statement name zs ts) → o ≡ Some ts
read_texels name numbers zs ts None e = absurd cc
read_texels name numbers zs ts (Some us) e =
    let same : statement name numbers us ≡ statement name zs ts = cc in
    ap (λ (l : List ℕ). Some l) (ap (λ (s : Statement). s.texels) same)

no_area : (area : ℕ) → (if area == 0 then 0 == 0 else 0 == 1) ≡ true → area ≡ 0
no_area area e =
    elim (cases_Bool (area == 0)) [
      | inl t ↦ eqb-true area 0 t
      | inr f ↦ let no' = rw f at e in absurd cc
    ]

-- what stands behind the numbers are the texels, as many as the numbers want
picture : (name : LineName) (rest : List (List ℕ)) (numbers zs : List ℤ) (ts : List ℕ)
    → (if picture_area numbers == 0 then length rest == 0 else length rest == 1) ≡ true
    → with_texels name rest numbers ≡ Ok (statement name zs ts) → length ts ≡ 4 * picture_area numbers
picture name [] numbers zs ts count e =
    let same : statement name numbers [] ≡ statement name zs ts = cc in
    let none : [] ≡ ts = ap (λ (s : Statement). s.texels) same in
    let size : 0 ≡ length ts = ap length none in
    let flat = no_area (picture_area numbers) count in
    omega (arith, flat, size)
picture name (w ∷ ws) numbers zs ts count e =
    texels_length (picture_area numbers) w ts (read_texels name numbers zs ts (spelled_texels (picture_area numbers) w) e)

texels_numbers : (name : LineName) (numbers zs : List ℤ) (ts : List ℕ) (o : Option (List ℕ))
    → or_fault kind.BadHex (option_map (statement name numbers) o) ≡ Ok (statement name zs ts) → numbers ≡ zs
texels_numbers name numbers zs ts None e = absurd cc
texels_numbers name numbers zs ts (Some us) e =
    let same : statement name numbers us ≡ statement name zs ts = cc in
    ap (λ (s : Statement). s.numbers) same

-- the numbers are those that were read
same_numbers : (name : LineName) (rest : List (List ℕ)) (numbers zs : List ℤ) (ts : List ℕ) → with_texels name rest numbers ≡ Ok (statement name zs ts) → numbers ≡ zs
same_numbers name [] numbers zs ts e =
    let same : statement name numbers [] ≡ statement name zs ts = cc in
    ap (λ (s : Statement). s.numbers) same
same_numbers name (w ∷ ws) numbers zs ts e = texels_numbers name numbers zs ts (spelled_texels (picture_area numbers) w) e

sized : (name : LineName) (rest : List (List ℕ)) (numbers zs : List ℤ) (ts : List ℕ)
    → (if picture_area numbers == 0 then length rest == 0 else length rest == 1) ≡ true
    → with_texels name rest numbers ≡ Ok (statement name zs ts) → length ts ≡ 4 * picture_area zs
sized name rest numbers zs ts count e =
    subst (λ (l : List ℤ). length ts ≡ 4 * picture_area l) (same_numbers name rest numbers zs ts e) (picture name rest numbers zs ts count e)

abbrev two : Option ℤ → Option ℤ → Option (List ℤ)
two a b = with_first a (with_first b (Some []))

three_numbers : (o : Opcode) (a b c : Option ℤ) (rest : List (List ℕ)) (zs : List ℤ) (ts : List ℕ) → is_rest_count (two b c) (length rest) ≡ true
    → with_numbers (line.Command o) rest (with_first a (two b c)) ≡ Ok (statement (line.Command o) zs ts) → length ts ≡ 4 * picture_area zs
three_numbers o None b c rest zs ts count e = absurd cc
three_numbers o (Some x) None c rest zs ts count e = absurd cc
three_numbers o (Some x) (Some y) None rest zs ts count e = absurd cc
three_numbers o (Some x) (Some y) (Some z) rest zs ts count e = sized (line.Command o) rest (x ∷ (y ∷ (z ∷ []))) zs ts count e

five_numbers : (o : Opcode) (u v a b c : Option ℤ) (rest : List (List ℕ)) (zs : List ℤ) (ts : List ℕ) → is_rest_count (two b c) (length rest) ≡ true
    → with_numbers (line.Command o) rest (with_first u (with_first v (with_first a (two b c)))) ≡ Ok (statement (line.Command o) zs ts) → length ts ≡ 4 * picture_area zs
five_numbers o None v a b c rest zs ts count e = absurd cc
five_numbers o (Some p) None a b c rest zs ts count e = absurd cc
five_numbers o (Some p) (Some q) None b c rest zs ts count e = absurd cc
five_numbers o (Some p) (Some q) (Some x) None c rest zs ts count e = absurd cc
five_numbers o (Some p) (Some q) (Some x) (Some y) None rest zs ts count e = absurd cc
five_numbers o (Some p) (Some q) (Some x) (Some y) (Some z) rest zs ts count e =
    sized (line.Command o) rest (p ∷ (q ∷ (x ∷ (y ∷ (z ∷ []))))) zs ts count e

counted : (name : LineName) (b : Bool) (o : Option (List ℤ)) (rest : List (List ℕ)) (s : Statement)
    → cond b (with_numbers name rest o) (Err kind.WrongCount) ≡ Ok s → (b ≡ true) × (with_numbers name rest o ≡ Ok s)
counted name false o rest s e = absurd cc
counted name true o rest s e = (refl, e)

-- the words behind the numbers are as many as width and height want
behind : (sides : Option (List ℤ)) (k m n : ℕ) → m ≡ k + n → (leb k m && is_rest_count sides (m - k)) ≡ true → is_rest_count sides n ≡ true
behind sides k m n size e =
    let less : m - k ≡ n = omega (arith, size) in
    subst (λ (x : ℕ). is_rest_count sides x ≡ true) less (and_parts (leb k m) (is_rest_count sides (m - k)) e).1

three_words : (ws : List (List ℕ)) (zs : List ℤ) (ts : List ℕ)
    → arguments_say (line.Command op.TexImage) ws ≡ Ok (statement (line.Command op.TexImage) zs ts) → length ts ≡ 4 * picture_area zs
unfolding arguments_say
three_words [] zs ts e = absurd cc
three_words (a ∷ []) zs ts e = absurd cc
three_words (a ∷ (b ∷ [])) zs ts e = absurd cc
three_words (a ∷ (b ∷ (c ∷ rest))) zs ts e =
    let name = line.Command op.TexImage in
    let words = a ∷ (b ∷ (c ∷ rest)) in
    let parts = counted name (is_counted name words) (numbers_of (line_ranges name) (take 3 words)) rest (statement name zs ts) e in
    let count = behind (two (reads_as range.Half b) (reads_as range.Half c)) 3 (length words) (length rest) (omega arith) parts.0 in
    three_numbers op.TexImage (reads_as range.Byte a) (reads_as range.Half b) (reads_as range.Half c) rest zs ts count parts.1

part_words : (ws : List (List ℕ)) (zs : List ℤ) (ts : List ℕ)
    → arguments_say (line.Command op.TexPart) ws ≡ Ok (statement (line.Command op.TexPart) zs ts) → length ts ≡ 4 * picture_area zs
unfolding arguments_say
part_words [] zs ts e = absurd cc
part_words (a ∷ []) zs ts e = absurd cc
part_words (a ∷ (b ∷ [])) zs ts e = absurd cc
part_words (a ∷ (b ∷ (c ∷ []))) zs ts e = absurd cc
part_words (a ∷ (b ∷ (c ∷ (d ∷ [])))) zs ts e = absurd cc
part_words (a ∷ (b ∷ (c ∷ (d ∷ (f ∷ rest))))) zs ts e =
    let name = line.Command op.TexPart in
    let words = a ∷ (b ∷ (c ∷ (d ∷ (f ∷ rest)))) in
    let parts = counted name (is_counted name words) (numbers_of (line_ranges name) (take 5 words)) rest (statement name zs ts) e in
    let count = behind (two (reads_as range.Half d) (reads_as range.Half f)) 5 (length words) (length rest) (omega arith) parts.0 in
    five_numbers op.TexPart (reads_as range.Byte a) (reads_as range.Half b) (reads_as range.Half c) (reads_as range.Half d) (reads_as range.Half f) rest zs ts count parts.1

shared_words : (ws : List (List ℕ)) (zs : List ℤ) (ts : List ℕ)
    → arguments_say (line.Command op.SharedImage) ws ≡ Ok (statement (line.Command op.SharedImage) zs ts) → length ts ≡ 4 * picture_area zs
unfolding arguments_say
shared_words [] zs ts e = absurd cc
shared_words (a ∷ []) zs ts e = absurd cc
shared_words (a ∷ (b ∷ [])) zs ts e = absurd cc
shared_words (a ∷ (b ∷ (c ∷ []))) zs ts e = absurd cc
shared_words (a ∷ (b ∷ (c ∷ (d ∷ [])))) zs ts e = absurd cc
shared_words (a ∷ (b ∷ (c ∷ (d ∷ (f ∷ rest))))) zs ts e =
    let name = line.Command op.SharedImage in
    let words = a ∷ (b ∷ (c ∷ (d ∷ (f ∷ rest)))) in
    let parts = counted name (is_counted name words) (numbers_of (line_ranges name) (take 5 words)) rest (statement name zs ts) e in
    let count = behind (two (reads_as range.Half d) (reads_as range.Half f)) 5 (length words) (length rest) (omega arith) parts.0 in
    five_numbers op.SharedImage (reads_as range.Byte a) (reads_as range.Half b) (reads_as range.Half c) (reads_as range.Half d) (reads_as range.Half f) rest zs ts count parts.1

-- ---- a command

no_picture : (ks : List Kind) (x : Fields ks) → list_all (λ k. not (is_picture k)) ks ≡ true → HaveTexels ks x
no_picture [] x none = tt
no_picture (Byte ∷ ks) x none = (tt, no_picture ks x.1 none)
no_picture (Half ∷ ks) x none = (tt, no_picture ks x.1 none)
no_picture (Word ∷ ks) x none = (tt, no_picture ks x.1 none)
no_picture (Code n ∷ ks) x none = (tt, no_picture ks x.1 none)
no_picture (Bytes n ∷ ks) x none = (tt, no_picture ks x.1 none)
no_picture (Words n ∷ ks) x none = (tt, no_picture ks x.1 none)
no_picture (Image ∷ ks) x none = absurd cc

-- one more empty list behind
same_length : (ts : List ℕ) (n : ℕ) → length (ts ++ []) ≡ n → length ts ≡ n
same_length ts n e = let parts = length-append ts [] in omega (arith, parts, e)

-- the texels of a line's picture are four bytes for each
whole_fields : (o : Opcode) (x : Fields (kinds_of o)) (ws : List (List ℕ))
    → arguments_say (line.Command o) ws ≡ Ok (statement (line.Command o) (field_numbers (kinds_of o) x) (field_texels (kinds_of o) x)) → HaveTexels (kinds_of o) x
whole_fields op.TexImage x ws e =
    let p = x.1.0 in
    (tt, (same_length p.texels (4 * (p.w * p.h)) (three_words ws (field_numbers (kinds_of op.TexImage) x) (p.texels ++ []) e), tt))
whole_fields op.TexPart x ws e =
    let p = x.1.1.1.0 in
    (tt, (tt, (tt, (same_length p.texels (4 * (p.w * p.h)) (part_words ws (field_numbers (kinds_of op.TexPart) x) (p.texels ++ []) e), tt))))
whole_fields op.SharedImage x ws e =
    let p = x.1.1.1.0 in
    (tt, (tt, (tt, (same_length p.texels (4 * (p.w * p.h)) (shared_words ws (field_numbers (kinds_of op.SharedImage) x) (p.texels ++ []) e), tt))))
whole_fields o x ws e = no_picture (kinds_of o) x refl

named : (s : Statement) (o : Option LineName) (ws : List (List ℕ)) → words_say_under o ws ≡ Ok s → arguments_say s.name ws ≡ Ok s
named s None ws e = absurd cc
named s (Some name) ws e = subst (λ (n : LineName). arguments_say n ws ≡ Ok s) (sym (says_name name ws s e)) e

-- the words of some line say it
abbrev Said : Statement → Type 0
Said s = (ws : List (List ℕ)) × (arguments_say s.name ws ≡ Ok s)

said : (ws : List (List ℕ)) (s : Statement) → words_say ws ≡ Ok s → Said s
said [] s e = absurd cc
said (w ∷ ws) s e = (ws, named s (name_of w) ws e)

-- ---- a scene

all_said : (ls : List (List (List ℕ))) (ss : List Statement) → map words_say ls ≡ map (λ x. Ok x) ss → AllByRecursion Said ss
all_said ls [] e = tt
all_said [] (s ∷ ss) e = absurd cc
all_said (l ∷ ls) (s ∷ ss) e = (said l s cc, all_said ls ss cc)

front_said : (ss us : List Statement) → AllByRecursion Said (ss ++ us) → AllByRecursion Said ss
front_said [] us h = tt
front_said (s ∷ ss) us h = (h.0, front_said ss us h.1)

rest_said : (ss us : List Statement) → AllByRecursion Said (ss ++ us) → AllByRecursion Said us
rest_said [] us h = h
rest_said (s ∷ ss) us h = rest_said ss us h.1

whole_client : (cs : List Command) → AllByRecursion Said (map command_statement cs) → AllByRecursion IsWhole cs
whole_client [] h = tt
whole_client (c ∷ cs) h = (whole_fields (opcode_of c) (fields_of c) h.0.0 h.0.1, whole_client cs h.1)

whole_streams : (streams : List (List Command)) → AllByRecursion Said (flat_map client_statements streams) → AllByRecursion (AllByRecursion IsWhole) streams
whole_streams [] h = tt
whole_streams (cs ∷ streams) h =
    let front = front_said (client_statements cs) (flat_map client_statements streams) h in
    (whole_client cs front.1, whole_streams streams (rest_said (client_statements cs) (flat_map client_statements streams) h))

-- ---- the version

one_or_two : (v : ℕ) → is_between (pos 1) (pos 2) (pos v) ≡ true → IsVersion v
one_or_two v e =
    let ends = and_parts (leb 1 v) (leb v 2) e in
    (omega (arith, leb-true 1 v ends.0), omega (arith, leb-true v 2 ends.1))

version_read : (rest : List (List ℕ)) (o : Option (List ℤ)) (d : Decl) → with_numbers line.Scene rest o ≡ Ok (window_statement d) → IsVersion d.version
version_read rest None d e = absurd cc
version_read rest (Some zs) d e =
    elim (cases_Bool (has_version line.Scene zs)) [
      | inl t ↦
          let read : with_texels line.Scene rest zs ≡ Ok (window_statement d) = rw t at e in
          let same = same_numbers line.Scene rest zs (pos d.version ∷ (pos d.width ∷ (pos d.height ∷ []))) [] read in
          one_or_two d.version (subst (λ (l : List ℤ). has_version line.Scene l ≡ true) same t)
      | inr f ↦ let none = rw f at e in absurd cc
    ]

version : (ws : List (List ℕ)) (d : Decl) → arguments_say line.Scene ws ≡ Ok (window_statement d) → IsVersion d.version
unfolding arguments_say
version ws d e =
    let numbers = numbers_of (line_ranges line.Scene) (take 3 ws) in
    version_read (drop 3 ws) numbers d (counted line.Scene (is_counted line.Scene ws) numbers (drop 3 ws) (window_statement d) e).1

pub whole_pictures : (text : List ℕ) (s : Scene) → SpellsText text s → IsVersion s.decl.version × AllByRecursion (AllByRecursion IsWhole) s.streams
whole_pictures text s t =
    let each = all_said (spoken (lines text)) (scene_statements s) t.says in
    (version each.0.0 s.decl each.0.1, whole_streams s.streams (rest_said (decl_statements s.decl) (flat_map client_statements s.streams) each))

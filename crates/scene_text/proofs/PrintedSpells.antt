-- A printed text spells its scene.
use Rattle.std.proofs.Common.{◌≡◌, ℕ, zero, suc, ◌+◌, ◌-◌, ◌/◌, ◌%◌, ◌<◌, ◌≤◌, ◌≢◌, ◌==◌, ◌&&◌, Bool, true, false, not, cond, nat_le, nat_lt, List, [], ◌∷◌, ◌++◌, map, length, take, get_or, ap, refl, sym, subst, ◌∙◌, arith, append-nil, append_assoc, ℤ, pos, negsuc, unsigned_abs, Result, Ok, Err, IfOk}
use Rattle.std.specs.List.{flat_map, filter, list_all, slice_split, onto_first, AllByRecursion}
use Rattle.std.specs.Fmt.{decimal, signed_decimal}
use Rattle.std.specs.Str.Lines.{lines, lines_of_parts, strip_carriage_return}
use Rattle.std.specs.Str.Parse.{AllDigits}
use Rattle.std.proofs.lemmas.Fmt.{decimal_nonempty, decimal_is_IsNumeral}
use Rattle.std.proofs.lemmas.Str.Parse.{digit_from_value}
use Rattle.std.proofs.lemmas.Bool.{le-leb, lt-ltb, leb-true, ltb-true, ne_eqb, or_from, and_from, and_parts}
use Rattle.std.proofs.lemmas.List.Splits.{slice_split-cons_no, length-slice_split}
use Rattle.rc_base.specs.declared.command.Command.{Command}
use Rattle.rc_base.specs.declared.command.Opcode.TheVariants as op
use Rattle.rc_base.specs.declared.scene.Decl.{Decl}
use Rattle.rc_base.specs.declared.scene.Scene.{Scene}
use Rattle.rc_base.specs.declared.text.LineName.{LineName}
use Rattle.rc_base.specs.declared.text.LineName.TheVariants as line
use Rattle.rc_base.specs.declared.command.NumberRange.{NumberRange}
use Rattle.rc_base.specs.Formats.Commands.{AreBytes, IsCommand, opcode_of}
use Rattle.rc_base.specs.Formats.Spelling.{IsDecl, IsSize, IsSide, IsCount, IsVersion}
use Rattle.scene_text.specs.Text.Statements.{Statement, word_of, line_ranges, window_statement, shared_statement, barrier_statement, semaphore_statement, command_statement, client_statements, decl_statements, scene_statements}
use Rattle.scene_text.specs.Text.Printed.{hex_digit, hex_byte, texel_words, argument_words, after_space, printed_line, printed}
use Rattle.rc_base.specs.Numbers.{is_between}
use Rattle.scene_text.specs.Text.Read.{is_text_byte, is_text, is_space, is_word, words_of, is_comment, has_no_word, is_skipped, words_say, words_say_under, arguments_say, spoken, SpellsText, has_version}
use Rattle.scene_text.proofs.PrintedWordsSay.{AllReady, name_back, command_says, command_ready, command_bytes, plain_says, ready_byte, ready_half}

-- ---- bytes of words and of lines

abbrev is_letter : ℕ → Bool
is_letter b = nat_le 33 b && nat_le b 126

letter : (b : ℕ) → 33 ≤ b → b ≤ 126 → is_letter b ≡ true
letter b low high = and_from _ _ (le-leb 33 b low) (le-leb b 126 high)

letter_bounds : (b : ℕ) → is_letter b ≡ true → (33 ≤ b) × (b ≤ 126)
letter_bounds b h = let p = and_parts (nat_le 33 b) (nat_le b 126) h in (leb-true 33 b p.0, leb-true b 126 p.1)

abbrev IsPrinted : List ℕ → Type 0
IsPrinted w = (0 < length w) × (list_all is_letter w ≡ true)

digits_print : (ds : List ℕ) → AllDigits 10 ds → list_all is_letter ds ≡ true
digits_print [] h = refl
digits_print (d ∷ ds) h = let r = digit_from_value d h.0 in and_from _ _ (letter d (omega (arith, r.0)) (omega (arith, r.1))) (digits_print ds h.1)

number_prints : (z : ℤ) → unsigned_abs z < 10000000000 → IsPrinted (signed_decimal z)
number_prints (pos n) h = (decimal_nonempty n (omega arith), digits_print (decimal n) (decimal_is_IsNumeral n (omega arith)).0.1)
number_prints (negsuc n) h = (omega arith, digits_print (decimal (suc n)) (decimal_is_IsNumeral (suc n) (omega arith)).0.1)

hex_prints : (d : ℕ) → d < 16 → is_letter (hex_digit d) ≡ true
hex_prints d h = go (nat_lt d 10) refl
  where
    go : (b : Bool) → nat_lt d 10 ≡ b → is_letter (cond b (48 + d) (87 + d)) ≡ true
    go true e = letter (48 + d) (omega arith) (omega (arith, ltb-true d 10 e))
    go false e = letter (87 + d) (omega arith) (omega arith)

texels_print : (ts : List ℕ) → AreBytes ts → list_all is_letter (flat_map hex_byte ts) ≡ true
texels_print [] h = refl
texels_print (b ∷ ts) h =
    let small : b < 256 = h 0 in
    and_from _ _ (hex_prints (b / 16) (omega arith)) (and_from _ _ (hex_prints (b % 16) (omega arith)) (texels_print ts (λ i. h (suc i))))

abbrev AllPrinted : List (List ℕ) → Type 0
AllPrinted [] = Unit {0}
AllPrinted (w ∷ ws) = IsPrinted w × AllPrinted ws

texel_words_print : (ts : List ℕ) → AreBytes ts → AllPrinted (texel_words ts)
texel_words_print [] h = tt
texel_words_print (b ∷ ts) h = ((omega arith, texels_print (b ∷ ts) h), tt)

abbrev AllSmall : List ℤ → Type 0
AllSmall [] = Unit {0}
AllSmall (z ∷ zs) = (unsigned_abs z < 10000000000) × AllSmall zs

words_print : (zs : List ℤ) (tw : List (List ℕ)) → AllSmall zs → AllPrinted tw → AllPrinted (map signed_decimal zs ++ tw)
words_print [] tw h k = k
words_print (z ∷ zs) tw h k = (number_prints z h.0, words_print zs tw h.1 k)

-- ---- the words of a line

letter_space : (b : ℕ) → is_letter b ≡ true → is_space b ≡ false
letter_space b h = ne_eqb b 32 (λ e. omega (arith, e, (letter_bounds b h).0))

cut : (w rest : List ℕ) → list_all is_letter w ≡ true → slice_split is_space (w ++ 32 ∷ rest) ≡ w ∷ slice_split is_space rest
cut [] rest h = refl
cut (b ∷ w) rest h =
    let p = and_parts (is_letter b) (list_all is_letter w) h in
    slice_split-cons_no is_space b (w ++ 32 ∷ rest) (letter_space b p.0) ∙ ap (onto_first b) (cut w rest p.1)

cut_last : (w : List ℕ) → list_all is_letter w ≡ true → slice_split is_space w ≡ w ∷ []
cut_last [] h = refl
cut_last (b ∷ w) h =
    let p = and_parts (is_letter b) (list_all is_letter w) h in
    slice_split-cons_no is_space b w (letter_space b p.0) ∙ ap (onto_first b) (cut_last w p.1)

cut_words : (w : List ℕ) (ws : List (List ℕ)) → IsPrinted w → AllPrinted ws → slice_split is_space (w ++ flat_map after_space ws) ≡ w ∷ ws
cut_words w [] h k = ap (slice_split is_space) (append-nil w) ∙ cut_last w h.1
cut_words w (v ∷ ws) h k = cut w (v ++ flat_map after_space ws) h.1 ∙ ap (λ l. w ∷ l) (cut_words v ws k.0 k.1)

all_words : (ws : List (List ℕ)) → AllPrinted ws → filter is_word ws ≡ ws
all_words [] h = refl
all_words (w ∷ ws) h = ap (λ b. cond b (w ∷ filter is_word ws) (filter is_word ws)) (lt-ltb 0 (length w) h.0.0) ∙ ap (λ l. w ∷ l) (all_words ws h.1)

abbrev line_text : Statement → List ℕ
line_text s = word_of s.name ++ flat_map after_space (argument_words s)

name_prints : (n : LineName) → list_all is_letter (word_of n) ≡ true
name_prints (line.Command op.Begin) = refl
name_prints name = refl

-- no name begins with `#`
begins : (n : LineName) (rest : List ℕ) → (is_comment (word_of n ++ rest) ≡ false) × (0 < length (word_of n))
begins (line.Command op.Begin) rest = (refl, omega arith)
begins name rest = (refl, omega arith)

-- a statement that its words say
record IsGood (s : Statement) : Type 0 where
  says : arguments_say s.name (argument_words s) ≡ Ok s
  numbers : AllSmall s.numbers
  texels : AreBytes s.texels

good_words : (s : Statement) → IsGood s → AllPrinted (argument_words s)
good_words s h = words_print s.numbers (texel_words s.texels) h.numbers (texel_words_print s.texels h.texels)

line_words : (s : Statement) → IsGood s → words_of (line_text s) ≡ word_of s.name ∷ argument_words s
line_words s h =
    let w : IsPrinted (word_of s.name) = ((begins s.name []).1, name_prints s.name) in
    ap (filter is_word) (cut_words (word_of s.name) (argument_words s) w (good_words s h)) ∙ all_words (word_of s.name ∷ argument_words s) (w, good_words s h)

line_speaks : (s : Statement) → IsGood s → is_skipped (line_text s) ≡ false
line_speaks s h = or_from (is_comment (line_text s)) (has_no_word (words_of (line_text s)))
    (begins s.name (flat_map after_space (argument_words s))).0
    (ap has_no_word (line_words s h) ∙ ne_eqb (length (word_of s.name ∷ argument_words s)) 0 (λ e. omega (arith, e)))

line_says : (s : Statement) → IsGood s → words_say (words_of (line_text s)) ≡ Ok s
line_says s h = ap words_say (line_words s h) ∙ ap (λ o. words_say_under o (argument_words s)) (name_back s.name) ∙ h.says

-- ---- the lines of a text

text_letters : (w : List ℕ) → list_all is_letter w ≡ true → is_text w ≡ true
text_letters [] h = refl
text_letters (b ∷ w) h =
    let p = and_parts (is_letter b) (list_all is_letter w) h in
    let r = letter_bounds b p.0 in
    and_from _ _ (and_from _ _ (le-leb 32 b (omega (arith, r.0))) (le-leb b 126 r.1)) (text_letters w p.1)

text_append : (v w : List ℕ) → is_text v ≡ true → is_text w ≡ true → is_text (v ++ w) ≡ true
text_append [] w h k = k
text_append (b ∷ v) w h k = let p = and_parts (is_text_byte b) (is_text v) h in and_from _ _ p.0 (text_append v w p.1 k)

text_words : (ws : List (List ℕ)) → AllPrinted ws → is_text (flat_map after_space ws) ≡ true
text_words [] h = refl
text_words (w ∷ ws) h = text_append w (flat_map after_space ws) (text_letters w h.0.1) (text_words ws h.1)

line_is_text : (s : Statement) → IsGood s → is_text (line_text s) ≡ true
line_is_text s h =
    text_append (word_of s.name) (flat_map after_space (argument_words s)) (text_letters (word_of s.name) (name_prints s.name)) (text_words (argument_words s) (good_words s h))

text_bounds : (b : ℕ) → is_text_byte b ≡ true → 32 ≤ b
text_bounds b h = leb-true 32 b (and_parts (nat_le 32 b) (nat_le b 126) h).0

abbrev is_feed : ℕ → Bool
is_feed b = b == 10

cut_line : (t rest : List ℕ) → is_text t ≡ true → slice_split is_feed (t ++ 10 ∷ rest) ≡ t ∷ slice_split is_feed rest
cut_line [] rest h = refl
cut_line (b ∷ t) rest h =
    let p = and_parts (is_text_byte b) (is_text t) h in
    slice_split-cons_no is_feed b (t ++ 10 ∷ rest) (ne_eqb b 10 (λ e. omega (arith, e, text_bounds b p.0))) ∙ ap (onto_first b) (cut_line t rest p.1)

no_return : (t : List ℕ) (k : ℕ) → is_text t ≡ true → get_or t k 0 ≢ 13
no_return [] k h e = absurd (omega (arith, e))
no_return (b ∷ t) zero h e = omega (arith, e, text_bounds b (and_parts (is_text_byte b) (is_text t) h).0)
no_return (b ∷ t) (suc k) h e = no_return t k (and_parts (is_text_byte b) (is_text t) h).1 e

kept : (t : List ℕ) → is_text t ≡ true → strip_carriage_return t ≡ t
kept t h = ap (λ b. cond b (take (length t - 1) t) t) (ne_eqb (get_or t (length t - 1) 0) 13 (no_return t (length t - 1) h))

line_more : (x : List ℕ) (parts : List (List ℕ)) → 0 < length parts → lines_of_parts (x ∷ parts) ≡ strip_carriage_return x ∷ lines_of_parts parts
line_more x [] h = absurd (omega arith)
line_more x (y ∷ more) h = refl

first_printed : (t rest : List ℕ) → is_text t ≡ true → lines (t ++ 10 ∷ rest) ≡ t ∷ lines rest
first_printed t rest h =
    ap lines_of_parts (cut_line t rest h)
    ∙ line_more t (slice_split is_feed rest) (omega (arith, length-slice_split is_feed rest))
    ∙ ap (λ x. x ∷ lines rest) (kept t h)

abbrev AllGood : List Statement → Type 0
AllGood [] = Unit {0}
AllGood (s ∷ ss) = IsGood s × AllGood ss

printed_lines : (ss : List Statement) → AllGood ss → lines (flat_map printed_line ss) ≡ map line_text ss
unfolding printed_line
printed_lines [] h = refl
printed_lines (s ∷ ss) h =
    ap lines (append_assoc (line_text s) (10 ∷ []) (flat_map printed_line ss))
    ∙ first_printed (line_text s) (flat_map printed_line ss) (line_is_text s h.0)
    ∙ ap (λ l. line_text s ∷ l) (printed_lines ss h.1)

lines_are_text : (ss : List Statement) → AllGood ss → list_all is_text (map line_text ss) ≡ true
lines_are_text [] h = refl
lines_are_text (s ∷ ss) h = and_from _ _ (line_is_text s h.0) (lines_are_text ss h.1)

lines_say : (ss : List Statement) → AllGood ss → map words_say (spoken (map line_text ss)) ≡ map (λ x. Ok x) ss
lines_say [] h = refl
lines_say (s ∷ ss) h =
    let rest = filter (λ l. not (is_skipped l)) (map line_text ss) in
    ap (λ b. map words_say (map words_of (cond (not b) (line_text s ∷ rest) rest))) (line_speaks s h.0)
    ∙ (λ i. line_says s h.0 i ∷ lines_say ss h.1 i)

-- ---- the statements of a scene

no_bytes : AreBytes []
no_bytes i = omega arith

good_append : (xs ys : List Statement) → AllGood xs → AllGood ys → AllGood (xs ++ ys)
good_append [] ys h k = k
good_append (x ∷ xs) ys h k = (h.0, good_append xs ys h.1 k)

in_versions : (v : ℕ) → IsVersion v → is_between (pos 1) (pos 2) (pos v) ≡ true
in_versions zero h = absurd (omega (arith, h.0))
in_versions (suc zero) h = refl
in_versions (suc (suc zero)) h = refl
in_versions (suc (suc (suc v))) h = absurd (omega (arith, h.1))

good_window : (d : Decl) → IsDecl d → IsGood (window_statement d)
good_window d h =
    let v = ready_byte d.version (omega (arith, h.version.1)) in
    let right : has_version line.Scene (pos d.version ∷ pos d.width ∷ pos d.height ∷ []) ≡ true = in_versions d.version h.version in
    let w = ready_half d.width h.width in
    let t = ready_half d.height h.height in
    record {
      says = plain_says line.Scene (pos d.version ∷ pos d.width ∷ pos d.height ∷ []) [] refl right (v, (w, (t, tt))) refl;
      numbers = (v.1, (w.1, (t.1, tt)));
      texels = no_bytes;
    }

good_shared : (size : List ℕ) → IsSize size → IsGood (shared_statement size)
good_shared [] h = absurd (omega (arith, h.0))
good_shared (w ∷ []) h = absurd (omega (arith, h.0))
good_shared (w ∷ (t ∷ [])) h =
    let a = ready_half w h.1.0 in
    let b = ready_half t h.1.1.0 in
    record {
      says = plain_says line.Shared (pos w ∷ pos t ∷ []) [] refl refl (a, (b, tt)) refl;
      numbers = (a.1, (b.1, tt));
      texels = no_bytes;
    }
good_shared (w ∷ (t ∷ (x ∷ xs))) h = absurd (omega (arith, h.0))

good_barrier : (n : ℕ) → IsCount n → IsGood (barrier_statement n)
good_barrier n h = let a = ready_byte n h in record { says = plain_says line.Barrier (pos n ∷ []) [] refl refl (a, tt) refl; numbers = (a.1, tt); texels = no_bytes }

good_semaphore : (n : ℕ) → IsSide n → IsGood (semaphore_statement n)
good_semaphore n h = let a = ready_half n h in record { says = plain_says line.Semaphore (pos n ∷ []) [] refl refl (a, tt) refl; numbers = (a.1, tt); texels = no_bytes }

small_ready : (rs : List NumberRange) (zs : List ℤ) → AllReady rs zs → AllSmall zs
small_ready [] [] h = tt
small_ready [] (z ∷ zs) h = absurd h
small_ready (r ∷ rs) [] h = absurd h
small_ready (r ∷ rs) (z ∷ zs) h = (h.0.1, small_ready rs zs h.1)

good_command : (c : Command) → IsCommand c → IsGood (command_statement c)
good_command c h = record {
  says = command_says c h;
  numbers = small_ready (line_ranges (line.Command (opcode_of c))) (command_statement c).numbers (command_ready c h);
  texels = command_bytes c h;
}

good_map : {A : Type 0} (P : A → Type 0) (f : A → Statement) → ((x : A) → P x → IsGood (f x)) → (xs : List A) → AllByRecursion P xs → AllGood (map f xs)
good_map P f g [] h = tt
good_map P f g (x ∷ xs) h = (g x h.0, good_map P f g xs h.1)

good_streams : (css : List (List Command)) → AllByRecursion (AllByRecursion IsCommand) css → AllGood (flat_map client_statements css)
good_streams [] h = tt
good_streams (cs ∷ css) h = (
  record { says = plain_says line.Client [] [] refl refl tt refl; numbers = tt; texels = no_bytes },
  good_append (map command_statement cs) (flat_map client_statements css) (good_map IsCommand command_statement good_command cs h.0) (good_streams css h.1),
)

good_scene : (s : Scene) → IsDecl s.decl → AllByRecursion (AllByRecursion IsCommand) s.streams → AllGood (scene_statements s)
good_scene s d h =
    let a = map shared_statement s.decl.shared in
    let b = map barrier_statement s.decl.barriers in
    let u = map semaphore_statement s.decl.semaphores in
    good_append (decl_statements s.decl) (flat_map client_statements s.streams) (
      good_window s.decl d,
      good_append a (b ++ u) (good_map IsSize shared_statement good_shared s.decl.shared d.shared)
          (good_append b u (good_map IsCount barrier_statement good_barrier s.decl.barriers d.barriers)
          (good_map IsSide semaphore_statement good_semaphore s.decl.semaphores d.semaphores)),
    )
    (good_streams s.streams h)

pub printed_spells : (s : Scene) → IsDecl s.decl → AllByRecursion (AllByRecursion IsCommand) s.streams → SpellsText (printed s) s
unfolding printed
printed_spells s d h =
    let good = good_scene s d h in
    record {
      text_bytes = ap (list_all is_text) (printed_lines (scene_statements s) good) ∙ lines_are_text (scene_statements s) good;
      says = ap (λ l. map words_say (spoken l)) (printed_lines (scene_statements s) good) ∙ lines_say (scene_statements s) good;
    }

pub spells_printed : {E : Type 0} (r : Result (List ℕ) E) (s : Scene) → IfOk r (λ t. t ≡ printed s) → IsDecl s.decl
    → AllByRecursion (AllByRecursion IsCommand) s.streams → IfOk r (λ t. SpellsText t s)
spells_printed (Ok t) s e d h = subst (λ x. SpellsText x s) (sym e) (printed_spells s d h)
spells_printed (Err f) s e d h = tt

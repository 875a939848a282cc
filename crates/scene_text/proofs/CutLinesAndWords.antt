-- The first line of a text and the first word of a line, by the place where they end.
use Rattle.std.proofs.Common.{◌≡◌, ℕ, ◌+◌, ◌<◌, ◌≤◌, ◌==◌, Bool, true, false, not, cond, nat_lt, List, [], ◌∷◌, length, take, drop, get_or, refl, sym, ap, ◌∙◌, subst, arith, Some, None}
use Rattle.std.specs.List.{position, position_or_len, slice_split, before_first, after_first, filter, All}
use Rattle.std.specs.Str.Lines.{lines, lines_of_parts, strip_carriage_return}
use Rattle.std.proofs.lemmas.List.Splits.{slice_split_first, slice_split_none, length-slice_split}
use Rattle.std.proofs.lemmas.List.Sums.{fails_before_first}
use Rattle.std.proofs.lemmas.Option.{cond_some}
use Rattle.std.proofs.lemmas.Bool.{ltb-true, ltb-false, lt-ltb, ne_eqb}
use Rattle.std.proofs.lemmas.Grind.{common_steps}
use Rattle.scene_text.specs.Text.Read.{words_of, is_space, is_word}

abbrev pub is_feed : ℕ → Bool
is_feed b = b == 10

-- what `position` says

pub place_some : (p : ℕ → Bool) (xs : List ℕ) (k : ℕ) → position p xs ≡ Some k → (k ≡ position_or_len p xs) × (k < length xs)
place_some p xs k h =
    let e = cond_some (nat_lt (position_or_len p xs) (length xs)) (position_or_len p xs) k h in
    let l : position_or_len p xs < length xs = ltb-true (position_or_len p xs) (length xs) e.0 in
    (sym e.1, subst (λ m. m < length xs) e.1 l)

none_at : (b : Bool) (n : ℕ) → cond b (Some n) None ≡ None → b ≡ false
none_at true n h = absurd (cc)
none_at false n h = refl

pub place_none : (p : ℕ → Bool) (xs : List ℕ) → position p xs ≡ None → All (λ x. p x ≡ false) xs
place_none p xs h k x m =
    let b : nat_lt (position_or_len p xs) (length xs) ≡ false = none_at (nat_lt (position_or_len p xs) (length xs)) (position_or_len p xs) h in
    let le : length xs ≤ position_or_len p xs = ltb-false (position_or_len p xs) (length xs) b in
    fails_before_first p xs k x (omega arith)

-- lines

one_line : (x : List ℕ) (parts : List (List ℕ)) → 0 < length parts → lines_of_parts (x ∷ parts) ≡ strip_carriage_return x ∷ lines_of_parts parts
one_line x [] h = absurd (omega arith)
one_line x (y ∷ more) h = refl

pub line_before : (text : List ℕ) (k : ℕ) → position is_feed text ≡ Some k
    → lines text ≡ strip_carriage_return (take k text) ∷ lines (drop (k + 1) text)
line_before text k h =
    let e = place_some is_feed text k h in
    let l : position_or_len is_feed text < length text = subst (λ m. m < length text) e.0 e.1 in
    ap lines_of_parts (slice_split_first is_feed text 0 l)
    ∙ one_line (before_first is_feed text) (slice_split is_feed (after_first is_feed text)) (omega (arith, length-slice_split is_feed (after_first is_feed text)))
    ∙ ap (λ m. strip_carriage_return (take m text) ∷ lines (drop (m + 1) text)) (sym e.0)

only_part : (x : List ℕ) → 0 < length x → lines_of_parts (x ∷ []) ≡ x ∷ []
only_part [] h = absurd (omega arith)
only_part (b ∷ bs) h = ap (λ t. cond t [] ((b ∷ bs) ∷ [])) (ne_eqb (length (b ∷ bs)) 0 (omega arith))

pub line_last : (text : List ℕ) → 0 < length text → position is_feed text ≡ None → lines text ≡ text ∷ []
line_last text some h = ap lines_of_parts (slice_split_none is_feed text (place_none is_feed text h)) ∙ only_part text some

-- words

word_first : (w : List ℕ) (parts : List (List ℕ)) → 0 < length w → filter is_word (w ∷ parts) ≡ w ∷ filter is_word parts
word_first [] parts h = absurd (omega arith)
word_first (b ∷ w) parts h = ap (λ t. cond t ((b ∷ w) ∷ filter is_word parts) (filter is_word parts)) (lt-ltb 0 (length (b ∷ w)) (omega arith))

-- where the first byte is no space, a space comes later
later : (line : List ℕ) (k : ℕ) → 0 < length line → is_space (get_or line 0 0) ≡ false → position_or_len is_space line ≡ k → 0 < k
later [] k some h e = absurd (omega arith)
later (b ∷ line) k some h e =
    let one : position_or_len is_space (b ∷ line) ≡ 1 + position_or_len is_space line = ap (λ t. cond (not t) (1 + position_or_len is_space line) 0) h in
    omega (arith, one, e)

pub word_before : (line : List ℕ) (k : ℕ) → 0 < length line → is_space (get_or line 0 0) ≡ false → position is_space line ≡ Some k
    → words_of line ≡ take k line ∷ words_of (drop (k + 1) line)
word_before line k some first h =
    let e = place_some is_space line k h in
    let l : position_or_len is_space line < length line = subst (λ m. m < length line) e.0 e.1 in
    let some_front : 0 < k = later line k some first (sym e.0) in
    let inside : k < length line = e.1 in
    let long : 0 < length (take k line) = grind (arith, common_steps) in
    ap (filter is_word) (slice_split_first is_space line 0 l)
    ∙ ap (λ m. filter is_word (take m line ∷ slice_split is_space (drop (m + 1) line))) (sym e.0)
    ∙ word_first (take k line) (slice_split is_space (drop (k + 1) line)) long

pub word_last : (line : List ℕ) → 0 < length line → position is_space line ≡ None → words_of line ≡ line ∷ []
word_last line some h = ap (filter is_word) (slice_split_none is_space line (place_none is_space line h)) ∙ word_first line [] some

-- In which rows of the table a kind stands.
use Rattle.std.proofs.Common.{◌≡◌, ℕ, zero, suc, ◌+◌, ◌<◌, ◌≤◌, ◌||◌, Bool, true, false, List, [], ◌∷◌, length, refl, sym, ap, subst, arith, true≢false, ◌∙◌, eq-eqb, ne_eqb}
use Rattle.std.specs.Prelude.{nat_eq, not, slice_index_or, if◌then◌else◌}
use Rattle.std.specs.List.{list_any}
use Rattle.std.proofs.lemmas.Bool.Decides.{nat_tests}
use Rattle.std.proofs.lemmas.List.{get_or_past}
use Rattle.std.proofs.lemmas.Bool.{or_right, or_left}
use Rattle.rc_base.specs.Contexts.Elements.{scalar_count}
use Rattle.element_table.specs.Kinds.{kind_of, scalar_kinds}
use Rattle.element_table.specs.declared.kind.ValueKind.{ValueKind}
use Rattle.element_table.specs.declared.kind.ValueKind.TheVariants.{Matrix, Area, Range, Flag, Code, Pair, Mask, Color, Depth, Mode, Image}

-- the numbers of the rows that pass a test, the first row having the number n
abbrev pub rows_with : (ValueKind → Bool) → List ValueKind → ℕ → List ℕ
rows_with test [] n = []
rows_with test (k ∷ ks) n = if test k then n ∷ rows_with test ks (suc n) else rows_with test ks (suc n)

rest_none : (a b : Bool) → (a || b) ≡ false → b ≡ false
rest_none true b h = absurd (true≢false h)
rest_none false b h = h

add_one : (n e : ℕ) → n + suc e ≡ suc n + e
add_one n e = omega arith

add_none : (n : ℕ) → n + 0 ≡ n
add_none n = omega arith

found_by : (test : ValueKind → Bool) (k : ValueKind) (ks : List ValueKind) (n e : ℕ) (b : Bool) → test k ≡ b
    → list_any (nat_eq e) (rows_with test ks (suc n)) ≡ true → list_any (nat_eq e) (rows_with test (k ∷ ks) n) ≡ true
found_by test k ks n e true is h = rw is (or_right (nat_eq e n) _ h)
found_by test k ks n e false is h = rw is h

-- a row that passes is among them
found : (test : ValueKind → Bool) (ks : List ValueKind) (n e : ℕ) (d : ValueKind) → test d ≡ false → test (slice_index_or ks e d) ≡ true
    → list_any (nat_eq (n + e)) (rows_with test ks n) ≡ true
found test [] n e d off is = absurd (true≢false (sym is ∙ off))
found test (k ∷ ks) n zero d off is = rw is (rw (eq-eqb (n + 0) n (add_none n)) refl)
found test (k ∷ ks) n (suc e) d off is =
    subst (λ (m : ℕ). list_any (nat_eq m) (rows_with test (k ∷ ks) n) ≡ true) (sym (add_one n e))
    (found_by test k ks n (suc n + e) (test k) refl (found test ks (suc n) e d off is))

abbrev pub is_matrix : ValueKind → Bool
is_matrix Matrix = true
is_matrix k = false

abbrev pub is_area : ValueKind → Bool
is_area Area = true
is_area k = false

abbrev pub is_range : ValueKind → Bool
is_range Range = true
is_range k = false

abbrev pub is_flag : ValueKind → Bool
is_flag Flag = true
is_flag k = false

abbrev pub is_code : ValueKind → Bool
is_code Code = true
is_code k = false

abbrev pub is_pair : ValueKind → Bool
is_pair Pair = true
is_pair k = false

abbrev pub is_mask : ValueKind → Bool
is_mask Mask = true
is_mask k = false

abbrev pub is_color : ValueKind → Bool
is_color Color = true
is_color k = false

abbrev pub is_depth : ValueKind → Bool
is_depth Depth = true
is_depth k = false

abbrev pub is_mode : ValueKind → Bool
is_mode Mode = true
is_mode k = false

abbrev pub is_image : ValueKind → Bool
is_image Image = true
is_image k = false

-- the rows of a kind that passes a test
abbrev pub rows_of : (ValueKind → Bool) → List ℕ
rows_of test = rows_with test scalar_kinds 0

found_in : (test : ValueKind → Bool) (k : ValueKind) (e : ℕ) → test Image ≡ false → test k ≡ true → kind_of e ≡ k → list_any (nat_eq e) (rows_of test) ≡ true
unfolding kind_of
found_in test k e off on is =
    let same : 0 + e ≡ e = omega arith in
    subst (λ (n : ℕ). list_any (nat_eq n) (rows_of test) ≡ true) same (found test scalar_kinds 0 e Image off (ap test is ∙ on))

pub matrix_rows : (e : ℕ) → kind_of e ≡ Matrix → list_any (nat_eq e) (rows_of is_matrix) ≡ true
matrix_rows e is = found_in is_matrix Matrix e refl refl is

pub area_rows : (e : ℕ) → kind_of e ≡ Area → list_any (nat_eq e) (rows_of is_area) ≡ true
area_rows e is = found_in is_area Area e refl refl is

pub range_row : (e : ℕ) → kind_of e ≡ Range → list_any (nat_eq e) (rows_of is_range) ≡ true
range_row e is = found_in is_range Range e refl refl is

pub flag_rows : (e : ℕ) → kind_of e ≡ Flag → list_any (nat_eq e) (rows_of is_flag) ≡ true
flag_rows e is = found_in is_flag Flag e refl refl is

pub code_rows : (e : ℕ) → kind_of e ≡ Code → list_any (nat_eq e) (rows_of is_code) ≡ true
code_rows e is = found_in is_code Code e refl refl is

pub pair_rows : (e : ℕ) → kind_of e ≡ Pair → list_any (nat_eq e) (rows_of is_pair) ≡ true
pair_rows e is = found_in is_pair Pair e refl refl is

pub mask_row : (e : ℕ) → kind_of e ≡ Mask → list_any (nat_eq e) (rows_of is_mask) ≡ true
mask_row e is = found_in is_mask Mask e refl refl is

pub color_row : (e : ℕ) → kind_of e ≡ Color → list_any (nat_eq e) (rows_of is_color) ≡ true
color_row e is = found_in is_color Color e refl refl is

pub depth_row : (e : ℕ) → kind_of e ≡ Depth → list_any (nat_eq e) (rows_of is_depth) ≡ true
depth_row e is = found_in is_depth Depth e refl refl is

pub mode_row : (e : ℕ) → kind_of e ≡ Mode → list_any (nat_eq e) (rows_of is_mode) ≡ true
mode_row e is = found_in is_mode Mode e refl refl is

-- ---- images stand behind the scalar elements

none_below : (ks : List ValueKind) (e : ℕ) → list_any is_image ks ≡ false → is_image (slice_index_or ks e Image) ≡ true → length ks ≤ e
none_below [] e none is = omega arith
none_below (k ∷ ks) zero none is = absurd (true≢false (sym (or_left (is_image k) (list_any is_image ks) is) ∙ none))
none_below (k ∷ ks) (suc e) none is =
    let rest : length ks ≤ e = none_below ks e (rest_none (is_image k) (list_any is_image ks) none) is in omega (arith, rest)

none_below_all : (e : ℕ) → is_image (kind_of e) ≡ true → scalar_count ≤ e
unfolding kind_of
none_below_all e is = none_below scalar_kinds e refl is

pub image_rows : (e : ℕ) → kind_of e ≡ Image → scalar_count ≤ e
image_rows e is = none_below_all e (ap is_image is)

pub image_kind : (e : ℕ) → scalar_count ≤ e → kind_of e ≡ Image
unfolding kind_of
image_kind e low = get_or_past scalar_kinds e Image low

past_none : (e : ℕ) (b : Bool) → is_image (kind_of e) ≡ b → e < scalar_count → not b ≡ true
past_none e true is low = let past : scalar_count ≤ e = none_below_all e is in absurd (omega (arith, past, low))
past_none e false is low = refl

pub scalar_kind : (e : ℕ) → e < scalar_count → not (is_image (kind_of e)) ≡ true
scalar_kind e low = past_none e (is_image (kind_of e)) refl low

-- ---- one row, and the last of several

pub only : (e k : ℕ) → list_any (nat_eq e) (k ∷ []) ≡ true → e ≡ k
only e k is = grind (arith, nat_tests)

pub rest_of : (e k : ℕ) (ks : List ℕ) → (e ≡ k → ⊥) → list_any (nat_eq e) (k ∷ ks) ≡ true → list_any (nat_eq e) ks ≡ true
rest_of e k ks other is = subst (λ (b : Bool). (b || list_any (nat_eq e) ks) ≡ true) (ne_eqb e k other) is

-- A plain text is the number that `parse` gives.
use Rattle.std.specs.Prelude.{◌≡◌, ◌≢◌, ℕ, zero, suc, ◌^◌, ◌<◌, ◌&&◌, ◌||◌, Bool, true, false, not, ◌==◌, List, [], ◌∷◌, ◌++◌, length, Ok, Err, None, Some}
use Rattle.std.proofs.Common.{Bor, inl, inr, refl, sym, ap, ◌∙◌, arith, get_or, ap₂}
use Rattle.std.proofs.lemmas.Bool.{eqb-true}
use Rattle.std.proofs.lemmas.Bool.Decides.{eqb_tells}
use Rattle.std.specs.Prelude.{MatchOption}
use Rattle.std.specs.Result.{result_ok}
use Rattle.std.proofs.Common.{Result}
use Rattle.std.specs.Str.{all_ascii_digits}
use Rattle.std.specs.Fmt.{decimal}
use Rattle.std.specs.Str.Parse.{ParsesUnsigned}
use Rattle.std.proofs.lemmas.Str.Parse.{parse_digits, not_in_digits}
use Rattle.std.proofs.lemmas.Fmt.{decimal-digits_value, parse-decimal, digits_decimal, decimal_nonempty, first_decimal, decimal_digit, decimal_injective}
use Rattle.std.proofs.lemmas.Str.Pattern.{IsSplitOnceResult, split_after}
use Rattle.plain_lemmas.proofs.Numbers.{decimal_numerals}
use Rattle.command_line.specs.Values.{is_plain}

both_left : (a b : Bool) → a && b ≡ true → a ≡ true
both_left true b h = refl
both_left false b h = h

both_right : (a b : Bool) → a && b ≡ true → b ≡ true
both_right true b h = h
both_right false b h = absurd cc

plain_digits : (bs : List ℕ) → is_plain bs ≡ true → all_ascii_digits bs ≡ true
plain_digits [] h = refl
plain_digits (c ∷ cs) h = both_left (all_ascii_digits (c ∷ cs)) (not (c == 48) || length cs == 0) h

plain_some : (bs : List ℕ) → is_plain bs ≡ true → 0 < length bs
plain_some [] h = absurd cc
plain_some (c ∷ cs) h = omega arith

not_zero : (k : ℕ) → (suc k == 0) ≡ false
not_zero k = elim (eqb_tells (suc k) 0) [ inl h ↦ absurd (omega (arith, h.1)) | inr h ↦ h.0 ]

plain_zero : (bs : List ℕ) → is_plain bs ≡ true → get_or bs 0 0 ≡ 48 → length bs ≡ 1
plain_zero [] h z = absurd cc
plain_zero (c ∷ []) h z = refl
plain_zero (c ∷ d ∷ cs) h z =
    let q = both_right (all_ascii_digits (c ∷ d ∷ cs)) (not (c == 48) || length (d ∷ cs) == 0) h in
    let some : (length (d ∷ cs) == 0) ≡ false = not_zero (length cs) in
    let is : c ≡ 48 = z in
    let w : false ≡ true = rw (is, some) at q in
    absurd cc

number_ok : (E : Type 0) (bs : List ℕ) (n : ℕ) → ParsesUnsigned {E = E} 64 10 bs (Ok n) → is_plain bs ≡ true → bs ≡ decimal n
number_ok E bs n h p =
    let k = parse_digits decimal_numerals {E = E} 64 bs (Ok n) h (plain_digits bs p) in
    sym (decimal-digits_value decimal_numerals bs (plain_digits bs p) (plain_some bs p) (plain_zero bs p) k.0.1) ∙ ap decimal (sym k.1)

number_err : (E : Type 0) (bs : List ℕ) (e : E) → ParsesUnsigned {E = E} 64 10 bs (Err e) → (n : ℕ) → n < 2 ^ 64 → bs ≡ decimal n → ⊥
number_err E bs e h n small is =
    let k : Err e ≡ Ok n = parse-decimal {E = E} 64 n bs (Err e) small small is h in
    absurd cc

pub number_told : (E : Type 0) (bs : List ℕ) (r : Result ℕ E) → ParsesUnsigned {E = E} 64 10 bs r → is_plain bs ≡ true
    → MatchOption (result_ok r) ((n : ℕ) → n < 2 ^ 64 → bs ≡ decimal n → ⊥) (λ n. bs ≡ decimal n)
number_told E bs (Ok n) h p = number_ok E bs n h p
number_told E bs (Err e) h p = number_err E bs e h

plain_text : (ds : List ℕ) → all_ascii_digits ds ≡ true → 0 < length ds → (get_or ds 0 0 ≡ 48 → length ds ≡ 1) → is_plain ds ≡ true
plain_text [] h some z = absurd (omega arith)
plain_text (c ∷ cs) h some z = go (c == 48) refl
  where
    go : (b : Bool) → (c == 48) ≡ b → is_plain (c ∷ cs) ≡ true
    go false e = rw (h, e) refl
    go true e =
        let one : length (c ∷ cs) ≡ 1 = z (eqb-true c 48 e) in
        let none : length cs ≡ 0 = omega arith in
        rw (h, e, none) refl

first_text : (n : ℕ) → n < 2 ^ 64 → get_or (decimal n) 0 0 ≡ 48 → length (decimal n) ≡ 1
first_text zero small z = ap length (decimal_digit 0 (omega arith))
first_text (suc n) small z =
    let more : 48 < get_or (decimal (suc n)) 0 0 = first_decimal (suc n) (omega arith) small in
    absurd (omega arith)

pub decimal_plain : (n : ℕ) → n < 2 ^ 64 → is_plain (decimal n) ≡ true
decimal_plain n small = plain_text (decimal n) (digits_decimal decimal_numerals n small) (decimal_nonempty n small) (first_text n small)

-- a number's text has no `x`
pub no_x : (n : ℕ) → n < 2 ^ 64 → (i : ℕ) → i < length (decimal n) → get_or (decimal n) i 0 ≢ 120
no_x n small = not_in_digits decimal_numerals (decimal n) 120 (digits_decimal decimal_numerals n small) (λ h. omega arith)

pub no_tiles : (bs : List ℕ) → IsSplitOnceResult 120 bs None → (c r : ℕ) → c < 2 ^ 64 → r < 2 ^ 64 → bs ≡ decimal c ++ (120 ∷ decimal r) → ⊥
no_tiles bs h c r small small' e = split_after 120 bs (decimal c) (decimal r) None h (omega arith) e (no_x c small)

pub tiles_parts : (bs : List ℕ) (x y : Bor (List ℕ)) → IsSplitOnceResult 120 bs (Some (x, y)) → (c r : ℕ) → c < 2 ^ 64 → r < 2 ^ 64
    → bs ≡ decimal c ++ (120 ∷ decimal r) → (x.now ≡ decimal c) × (y.now ≡ decimal r)
tiles_parts bs x y h c r small small' e = split_after 120 bs (decimal c) (decimal r) (Some (x, y)) h (omega arith) e (no_x c small)

-- texts that are parted by a byte that the first parts lack
cut : (c : ℕ) (xs ys us vs : List ℕ) → ((i : ℕ) → i < length xs → get_or xs i 0 ≢ c) → ((i : ℕ) → i < length us → get_or us i 0 ≢ c)
    → xs ++ (c ∷ ys) ≡ us ++ (c ∷ vs) → (xs ≡ us) × (ys ≡ vs)
cut c [] ys [] vs nx nu e = (refl, cc)
cut c [] ys (u ∷ us) vs nx nu e = let same : u ≡ c = cc in absurd (nu 0 (omega arith) same)
cut c (x ∷ xs) ys [] vs nx nu e = let same : x ≡ c = cc in absurd (nx 0 (omega arith) same)
cut c (x ∷ xs) ys (u ∷ us) vs nx nu e =
    let heads : x ≡ u = cc in
    let tails : xs ++ (c ∷ ys) ≡ us ++ (c ∷ vs) = cc in
    let k = cut c xs ys us vs (λ i h. nx (suc i) (omega arith)) (λ i h. nu (suc i) (omega arith)) tails in
    (ap₂ (λ z (zs : List ℕ). z ∷ zs) heads k.0, k.1)

pub same_tiles : (c r d q : ℕ) → c < 2 ^ 64 → r < 2 ^ 64 → d < 2 ^ 64 → q < 2 ^ 64
    → decimal c ++ (120 ∷ decimal r) ≡ decimal d ++ (120 ∷ decimal q) → (c ≡ d) × (r ≡ q)
same_tiles c r d q hc hr hd hq e =
    let k = cut 120 (decimal c) (decimal r) (decimal d) (decimal q) (no_x c hc) (no_x d hd) e in
    (decimal_injective c d hc hd k.0, decimal_injective r q hr hq k.1)

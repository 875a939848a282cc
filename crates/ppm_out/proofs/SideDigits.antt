-- The digits of a side.
use Rattle.std.proofs.Common.{◌≡◌, ℕ, ◌+◌, ◌*◌, ◌-◌, ◌/◌, ◌%◌, ◌<◌, ◌≤◌, ◌^◌, List, [], ◌∷◌, ◌++◌, length, map, get_or, sym, ap, ◌∙◌, arith}
use Rattle.std.specs.Fmt.{decimal}
use Rattle.std.specs.Char.{digit_value}
use Rattle.std.specs.Int.Digits.{number_from_digits, number_from_digits_after}
use Rattle.std.proofs.lemmas.List.{map-append, append-nil}
use Rattle.std.proofs.lemmas.Fmt.{decimal_digit, decimal_step, decimal_is_IsNumeral, decimal_injective, digits_decimal}
use Rattle.std.proofs.lemmas.Int.Digits.{digits_value_is, number_after_append, number_after_ge}
use Rattle.std.proofs.lemmas.Str.Parse.{numerals_by_value, tells_by_index}
use Rattle.ppm_out.specs.Rest.{IsSide, IsDigit}

-- each byte of a number is a digit
pub are_digits : (n i : ℕ) → n < 2 ^ 64 → i < length (decimal n) → IsDigit (get_or (decimal n) i 0)
are_digits n i small within = let all = digits_decimal (numerals_by_value _ tells_by_index) n small in let r = all i within in (omega (arith, r), omega (arith, r))

-- a number of one digit
pub one_digit : (b : ℕ) → 48 ≤ b → b ≤ 57 → decimal (b - 48) ≡ b ∷ []
one_digit b low high =
    let same : 48 + (b - 48) ≡ b = omega arith in
    decimal_digit (b - 48) (omega arith) ∙ ap (λ (c : ℕ). c ∷ []) same

-- a digit more
pub digit_behind : (w b : ℕ) → IsSide w → IsDigit b → decimal (w * 10 + (b - 48)) ≡ decimal w ++ b ∷ []
digit_behind w b side digit =
    let n : ℕ = w * 10 + (b - 48) in
    let front : n / 10 ≡ w = omega arith in
    let last : 48 + n % 10 ≡ b = omega arith in
    decimal_step n (omega arith) (omega arith) ∙ ap (λ (k : ℕ). decimal k ++ (48 + n % 10) ∷ []) front ∙ ap (λ (c : ℕ). decimal w ++ c ∷ []) last

value_of : (n : ℕ) → n < 2 ^ 64 → number_from_digits 10 (map digit_value (decimal n)) ≡ n
value_of n small = sym (digits_value_is 10 (decimal n)) ∙ (decimal_is_IsNumeral n small).1

-- a number that begins with the digits of another is at least that one
pub front_at_most : (n k : ℕ) (more : List ℕ) → n < 2 ^ 64 → k < 2 ^ 64 → decimal n ≡ decimal k ++ more → k ≤ n
front_at_most n k more small front_small e =
    let apart : map digit_value (decimal n) ≡ map digit_value (decimal k) ++ map digit_value more = ap (map digit_value) e ∙ map-append digit_value (decimal k) more in
    let whole : n ≡ number_from_digits_after 10 (number_from_digits 10 (map digit_value (decimal k))) (map digit_value more) =
    sym (value_of n small) ∙ ap (number_from_digits 10) apart ∙ number_after_append 10 0 (map digit_value (decimal k)) (map digit_value more) in
    let least = number_after_ge 10 (number_from_digits 10 (map digit_value (decimal k))) (map digit_value more) (omega arith) in
    omega (arith, whole, least, value_of k front_small)

pub same_number : (n k : ℕ) → n < 2 ^ 64 → k < 2 ^ 64 → decimal n ≡ decimal k ++ [] → n ≡ k
same_number n k small front_small e = decimal_injective n k small front_small (e ∙ append-nil (decimal k))

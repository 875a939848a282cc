-- What each byte turns the rest of an image into, where a side or its whitespace is due.
use Rattle.std.proofs.Common.{◌≡◌, ℕ, ◌+◌, ◌*◌, ◌-◌, ◌≤◌, ◌⊎◌, inl, inr, Bool, true, false, List, ◌∷◌, Some, None, sym, ◌∙◌, ap, subst, arith}
use Rattle.std.specs.Prelude.{◌↔◌, ◌==◌, if◌then◌else◌}
use Rattle.std.proofs.lemmas.Bool.{cases_lt, cases_Bool, eqb-true, eqb-false}
use Rattle.rc_base.specs.Formats.Netpbm.{is_whitespace}
use Rattle.rc_base.specs.declared.image.Image.{Image}
use Rattle.ppm_out.specs.declared.header.Due.{Due}
use Rattle.ppm_out.specs.declared.header.Next.{Next}
use Rattle.ppm_out.specs.declared.header.Next.TheVariants as next
use Rattle.ppm_out.specs.Rest.{IsSide, IsDigit, IsFirstDigit, IsNextDigit, Byte, Blank, Blanks, Side, Digits, Known, Ends, HasReadSides, Follows}
use Rattle.ppm_out.proofs.Steps.{blank_no_digit, under, joined, byte_on, blank_on, blank_off, blanks_on, blanks_end, side_first, side_on, digits_on, digits_over, digits_end}

module _ (K : List ℕ → Image → Type 0) (m : Image) (b : ℕ) (xs : List ℕ) (side : Image → ℕ) where
  -- ---- whitespace or a side is due

  pub gap_goes_on : is_whitespace b ≡ true → Blanks (Side side K) (b ∷ xs) m ↔ Blanks (Side side K) xs m
  gap_goes_on ws = blanks_on (Side side K) m b xs ws (λ h. let first = side_first K m b xs side h in omega (arith, first, blank_no_digit b ws))

  pub side_begins : is_whitespace b ≡ false → (w : ℕ) → IsFirstDigit b (Some w) → Blanks (Side side K) (b ∷ xs) m ↔ Digits side w K xs m
  side_begins plain w first =
      let same : Digits side (b - 48) K xs m ↔ Digits side w K xs m = rw (first.2) (λ h. h, λ h. h) in
      joined (blanks_end (Side side K) m b xs plain) (joined (side_on K m b xs side first.0 first.1) same)

  pub no_side_begins : is_whitespace b ≡ false → IsFirstDigit b None → Blanks (Side side K) (b ∷ xs) m → ⊥
  no_side_begins plain other h = let first = side_first K m b xs side ((blanks_end (Side side K) m b xs plain).0 h) in omega (arith, first, other)

  -- ---- whitespace or a further digit is due

  module _ (w : ℕ) (is_side : IsSide w) where
    pub side_ends : is_whitespace b ≡ true → Digits side w (Blank K) (b ∷ xs) m ↔ Known side w K xs m
    side_ends ws = joined (digits_end (Blank K) m b xs side w is_side (λ d. omega (arith, d, blank_no_digit b ws))) (under (blank_on K m b xs ws))

    no_blank : is_whitespace b ≡ false → Blank K (b ∷ xs) m → ⊥
    no_blank plain = blank_off K m b xs plain

    pub side_goes_on : is_whitespace b ≡ false → (longer : ℕ) → IsNextDigit w b (Some longer) → Digits side w (Blank K) (b ∷ xs) m ↔ Digits side longer (Blank K) xs m
    side_goes_on plain longer digit =
        let few : w * 10 + (b - 48) ≤ 2048 = omega (arith, digit) in
        let same : Digits side (w * 10 + (b - 48)) (Blank K) xs m ↔ Digits side longer (Blank K) xs m = rw (digit.1) (λ h. h, λ h. h) in
        joined (digits_on (Blank K) m b xs side w is_side digit.0 few (no_blank plain)) same

    pub side_is_wrong : is_whitespace b ≡ false → IsNextDigit w b None → Digits side w (Blank K) (b ∷ xs) m → ⊥
    side_is_wrong plain wrong h = go (cases_digit b) where
      cases_digit : (b : ℕ) → IsDigit b ⊎ (IsDigit b → ⊥)
      cases_digit b = elim (cases_lt b 48) [ inl low ↦ inr (λ d. omega (arith, low, d)) | inr least ↦ elim (cases_lt 57 b) [ inl high ↦ inr (λ d. omega (arith, high, d)) | inr most ↦ inl (least, most) ] ]

      go : IsDigit b ⊎ (IsDigit b → ⊥) → ⊥
      go (inl digit) = digits_over (Blank K) m b xs side w is_side digit (wrong digit) (no_blank plain) h
      go (inr other) = no_blank plain ((digits_end (Blank K) m b xs side w is_side other).0 h).1

-- ---- one byte is due

module _ (K : List ℕ → Image → Type 0) (m : Image) (b c : ℕ) (xs : List ℕ) where
  pub byte_goes_on : b ≡ c → Byte c K (b ∷ xs) m ↔ K xs m
  byte_goes_on is = subst (λ (a : ℕ). Byte a K (b ∷ xs) m ↔ K xs m) is (byte_on K m b xs)

pub expected : (d : Due) (b c : ℕ) (after : Due) (r : Next) → r ≡ (if b == c then next.Header after else next.Nothing) → HasReadSides after
    → ((xs : List ℕ) (m : Image) → b ≡ c → Ends d (b ∷ xs) m ↔ Ends after xs m) → ((xs : List ℕ) (m : Image) → Ends d (b ∷ xs) m → b ≡ c) → Follows d b r
expected d b c after r is sound on off = elim (cases_Bool (b == c)) [
  | inl same ↦ subst (Follows d b) (sym (is ∙ ap (λ (t : Bool). if t then next.Header after else next.Nothing) same)) (sound, λ xs m. on xs m (eqb-true b c same))
  | inr other ↦ subst (Follows d b) (sym (is ∙ ap (λ (t : Bool). if t then next.Header after else next.Nothing) other)) (λ xs m h. eqb-false b c other (off xs m h))
]

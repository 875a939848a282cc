-- How a byte leads from one rest of an image to the next.
use Rattle.std.proofs.Common.{◌≡◌, ℕ, ◌+◌, ◌*◌, ◌-◌, ◌<◌, ◌≤◌, true, false, List, [], ◌∷◌, ◌++◌, length, get_or, refl, sym, ap, ◌∙◌, subst, arith, append_assoc, length-append}
use Rattle.std.specs.Prelude.{◌↔◌}
use Rattle.std.specs.List.{list_all}
use Rattle.std.specs.Fmt.{decimal}
use Rattle.std.proofs.lemmas.Bool.{and_parts, and_from, both_ways}
use Rattle.std.proofs.lemmas.Bool.Decides.{nat_tests}
use Rattle.std.proofs.lemmas.Fmt.{decimal_nonempty, first_decimal}
use Rattle.std.proofs.lemmas.List.{append-nil}
use Rattle.std.proofs.Math.Seq.{get_or-append_seam}
use Rattle.rc_base.specs.Formats.Netpbm.{is_whitespace}
use Rattle.rc_base.specs.declared.image.Image.{Image}
use Rattle.ppm_out.specs.Rest.{IsSide, IsDigit, Byte, Blank, Blanks, Side, Digits, Known}
use Rattle.ppm_out.proofs.SideDigits.{are_digits, one_digit, digit_behind, front_at_most, same_number}

heads : (a b : ℕ) (xs ys : List ℕ) → a ∷ xs ≡ b ∷ ys → a ≡ b
heads a b xs ys e = cc

tails : (a b : ℕ) (xs ys : List ℕ) → a ∷ xs ≡ b ∷ ys → xs ≡ ys
tails a b xs ys e = cc

not_nil : (b : ℕ) (ys : List ℕ) → [] ≡ b ∷ ys → ⊥
not_nil b ys e = cc

-- whitespace is no digit
pub blank_no_digit : (b : ℕ) → is_whitespace b ≡ true → b ≤ 32
blank_no_digit b h = grind (arith, nat_tests, h)

-- the first byte of a number
first_of : (n b : ℕ) (more : List ℕ) → IsSide n → decimal n ≡ b ∷ more → (49 ≤ b) × (b ≤ 57)
first_of n b more side e =
    let above = first_decimal n (omega arith) (omega arith) in
    let some : 0 < length (decimal n) = decimal_nonempty n (omega arith) in
    let digit = are_digits n 0 (omega arith) some in
    let is : get_or (decimal n) 0 0 ≡ b = ap (λ (l : List ℕ). get_or l 0 0) e in
    (omega (arith, is, above), omega (arith, is, digit))

-- the byte of a number behind a front
byte_behind : (n b : ℕ) (front more : List ℕ) → IsSide n → decimal n ≡ front ++ b ∷ more → IsDigit b
byte_behind n b front more side e =
    let within : length front < length (decimal n) = omega (arith, ap length e, length-append front (b ∷ more)) in
    let digit = are_digits n (length front) (omega arith) within in
    let is : get_or (decimal n) (length front) 0 ≡ b = ap (λ (l : List ℕ). get_or l (length front) 0) e ∙ get_or-append_seam front b more 0 in
    (omega (arith, is, digit), omega (arith, is, digit))

-- what stands behind a known side
pub under : {P A B : Type 0} → (A ↔ B) → (P × A) ↔ (P × B)
under h = (λ p. (p.0, h.0 p.1), λ p. (p.0, h.1 p.1))

pub joined : {A B C : Type 0} → (A ↔ B) → (B ↔ C) → (A ↔ C)
joined f g = (λ a. g.0 (f.0 a), λ c. f.1 (g.1 c))

module _ (K : List ℕ → Image → Type 0) (m : Image) (b : ℕ) (xs : List ℕ) where
  pub byte_on : Byte b K (b ∷ xs) m ↔ K xs m
  byte_on = (λ h. subst (λ (l : List ℕ). K l m) (sym (tails b b xs h.0 h.1)) h.2, λ k. (xs, refl, k))

  pub byte_off : (c : ℕ) → Byte c K (b ∷ xs) m → b ≡ c
  byte_off c h = heads b c xs h.0 h.1

  pub blank_on : is_whitespace b ≡ true → Blank K (b ∷ xs) m ↔ K xs m
  blank_on ws = (λ h. subst (λ (l : List ℕ). K l m) (sym (tails b h.0 xs h.1 h.2)) h.4, λ k. (b, xs, refl, ws, k))

  pub blank_off : is_whitespace b ≡ false → Blank K (b ∷ xs) m → ⊥
  blank_off plain h = both_ways (is_whitespace b) plain (ap is_whitespace (heads b h.0 xs h.1 h.2) ∙ h.3)

  pub blanks_on : is_whitespace b ≡ true → (K (b ∷ xs) m → ⊥) → Blanks K (b ∷ xs) m ↔ Blanks K xs m
  blanks_on ws none = (λ h. go h.0 h.1 h.2 h.3 h.4, λ h. (b ∷ h.0, h.1, ap (λ (l : List ℕ). b ∷ l) h.2, and_from (is_whitespace b) (list_all is_whitespace h.0) ws h.3, h.4)) where
    go : (gap ys : List ℕ) → b ∷ xs ≡ gap ++ ys → list_all is_whitespace gap ≡ true → K ys m → Blanks K xs m
    go [] ys e all k = absurd (none (subst (λ (l : List ℕ). K l m) (sym e) k))
    go (g ∷ gap) ys e all k = (gap, ys, tails b g xs (gap ++ ys) e, (and_parts (is_whitespace g) (list_all is_whitespace gap) all).1, k)

  pub blanks_end : is_whitespace b ≡ false → Blanks K (b ∷ xs) m ↔ K (b ∷ xs) m
  blanks_end plain = (λ h. go h.0 h.1 h.2 h.3 h.4, λ k. ([], b ∷ xs, refl, refl, k)) where
    go : (gap ys : List ℕ) → b ∷ xs ≡ gap ++ ys → list_all is_whitespace gap ≡ true → K ys m → K (b ∷ xs) m
    go [] ys e all k = subst (λ (l : List ℕ). K l m) (sym e) k
    go (g ∷ gap) ys e all k =
        absurd (both_ways (is_whitespace b) plain (ap is_whitespace (heads b g xs (gap ++ ys) e) ∙ (and_parts (is_whitespace g) (list_all is_whitespace gap) all).0))

  module _ (side : Image → ℕ) where
    -- a side begins with a digit that is not 0
    pub side_first : Side side K (b ∷ xs) m → (49 ≤ b) × (b ≤ 57)
    side_first h = go (decimal (side m)) refl h.1 where
      go : (ds : List ℕ) → decimal (side m) ≡ ds → b ∷ xs ≡ decimal (side m) ++ h.0 → (49 ≤ b) × (b ≤ 57)
      go [] e whole = let some : 0 < length (decimal (side m)) = decimal_nonempty (side m) (omega arith) in let none = ap length e in absurd (omega (arith, none, some))
      go (d ∷ ds) e whole =
          let same : b ≡ d = heads b d xs (ds ++ h.0) (whole ∙ ap (λ (l : List ℕ). l ++ h.0) e) in
          first_of (side m) b ds h.2 (e ∙ ap (λ (c : ℕ). c ∷ ds) (sym same))

    pub side_on : 49 ≤ b → b ≤ 57 → Side side K (b ∷ xs) m ↔ Digits side (b - 48) K xs m
    side_on low high = (λ h. go (decimal (side m)) refl h.0 h.1 h.2 h.3, λ h. (h.1, back h.0 h.1 h.2 h.3, h.4, h.5)) where
      go : (ds : List ℕ) → decimal (side m) ≡ ds → (ys : List ℕ) → b ∷ xs ≡ decimal (side m) ++ ys → IsSide (side m) → K ys m → Digits side (b - 48) K xs m
      go [] e ys whole in_range k = let some : 0 < length (decimal (side m)) = decimal_nonempty (side m) (omega arith) in let none = ap length e in absurd (omega (arith, none, some))
      go (d ∷ ds) e ys whole in_range k =
          let parts : b ∷ xs ≡ d ∷ (ds ++ ys) = whole ∙ ap (λ (l : List ℕ). l ++ ys) e in
          let front : decimal (side m) ≡ decimal (b - 48) ++ ds =
          e ∙ ap (λ (c : ℕ). c ∷ ds) (sym (heads b d xs (ds ++ ys) parts)) ∙ ap (λ (l : List ℕ). l ++ ds) (sym (one_digit b (omega arith) high)) in
          (ds, ys, tails b d xs (ds ++ ys) parts, front, in_range, k)

      back : (more ys : List ℕ) → xs ≡ more ++ ys → decimal (side m) ≡ decimal (b - 48) ++ more → b ∷ xs ≡ decimal (side m) ++ ys
      back more ys e front =
          sym (ap (λ (l : List ℕ). l ++ ys) (front ∙ ap (λ (l : List ℕ). l ++ more) (one_digit b (omega arith) high)) ∙ ap (λ (l : List ℕ). b ∷ l) (sym e))

    module _ (w : ℕ) (is_side : IsSide w) where
      pub digits_on : IsDigit b → w * 10 + (b - 48) ≤ 2048 → (K (b ∷ xs) m → ⊥) → Digits side w K (b ∷ xs) m ↔ Digits side (w * 10 + (b - 48)) K xs m
      digits_on digit few none = (λ h. go h.0 h.1 h.2 h.3 h.4 h.5, λ h. (b ∷ h.0, h.1, ap (λ (l : List ℕ). b ∷ l) h.2, back h.0 h.3, h.4, h.5)) where
        go : (more ys : List ℕ) → b ∷ xs ≡ more ++ ys → decimal (side m) ≡ decimal w ++ more → IsSide (side m) → K ys m → Digits side (w * 10 + (b - 48)) K xs m
        go [] ys e front in_range k = absurd (none (subst (λ (l : List ℕ). K l m) (sym e) k))
        go (c ∷ more) ys e front in_range k =
            let same : b ≡ c = heads b c xs (more ++ ys) e in
            let parts : decimal (side m) ≡ decimal (w * 10 + (b - 48)) ++ more =
            front ∙ ap (λ (a : ℕ). decimal w ++ a ∷ more) (sym same) ∙ sym (append_assoc (decimal w) (b ∷ []) more) ∙ ap (λ (l : List ℕ). l ++ more) (sym (digit_behind w b is_side digit)) in
            (more, ys, tails b c xs (more ++ ys) e, parts, in_range, k)

        back : (more : List ℕ) → decimal (side m) ≡ decimal (w * 10 + (b - 48)) ++ more → decimal (side m) ≡ decimal w ++ b ∷ more
        back more front = front ∙ ap (λ (l : List ℕ). l ++ more) (digit_behind w b is_side digit) ∙ append_assoc (decimal w) (b ∷ []) more

      pub digits_over : IsDigit b → 2048 < w * 10 + (b - 48) → (K (b ∷ xs) m → ⊥) → Digits side w K (b ∷ xs) m → ⊥
      digits_over digit long none h = go h.0 h.1 h.2 h.3 h.4 h.5 where
        go : (more ys : List ℕ) → b ∷ xs ≡ more ++ ys → decimal (side m) ≡ decimal w ++ more → IsSide (side m) → K ys m → ⊥
        go [] ys e front in_range k = none (subst (λ (l : List ℕ). K l m) (sym e) k)
        go (c ∷ more) ys e front in_range k =
            let parts : decimal (side m) ≡ decimal (w * 10 + (b - 48)) ++ more =
            front ∙ ap (λ (a : ℕ). decimal w ++ a ∷ more) (sym (heads b c xs (more ++ ys) e)) ∙ sym (append_assoc (decimal w) (b ∷ []) more)
            ∙ ap (λ (l : List ℕ). l ++ more) (sym (digit_behind w b is_side digit)) in
            let least = front_at_most (side m) (w * 10 + (b - 48)) more (omega arith) (omega arith) parts in
            omega (arith, least, long, in_range)

      pub digits_end : (IsDigit b → ⊥) → Digits side w K (b ∷ xs) m ↔ Known side w K (b ∷ xs) m
      digits_end plain = (λ h. go h.0 h.1 h.2 h.3 h.4 h.5, λ h. ([], b ∷ xs, refl, ap decimal h.0 ∙ sym (append-nil (decimal w)), subst IsSide (sym h.0) is_side, h.1)) where
        go : (more ys : List ℕ) → b ∷ xs ≡ more ++ ys → decimal (side m) ≡ decimal w ++ more → IsSide (side m) → K ys m → Known side w K (b ∷ xs) m
        go [] ys e front in_range k = (same_number (side m) w (omega arith) (omega arith) front, subst (λ (l : List ℕ). K l m) (sym e) k)
        go (c ∷ more) ys e front in_range k =
            absurd (plain (byte_behind (side m) b (decimal w) more in_range (front ∙ ap (λ (a : ℕ). decimal w ++ a ∷ more) (sym (heads b c xs (more ++ ys) e)))))

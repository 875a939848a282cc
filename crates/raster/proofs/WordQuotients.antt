-- Numbers in parts of 2^96, modulo 2^128: sums, multiples, and the quotient that they give.
use Rattle.std.proofs.Common.{◌≡◌, ℕ, ◌+◌, ◌*◌, ◌^◌, ◌<◌, ◌/◌, ◌%◌, unsigned_abs, ℤ, pos, negsuc, ◌+ℤ◌, ◌-ℤ◌, ◌*ℤ◌, ◌≤ℤ◌, ◌<ℤ◌, arith, ap, sym, ◌∙◌, subst, FitsSigned, w32, w64, to_z, of_z, to_z-of_z, refl, neg_ℤ, ◌-◌, zero, suc}
use Rattle.std.proofs.lemmas.Int.{ints, by_lt_z}
use Rattle.std.specs.Int.{int_rem_euclid}
use lib.IntN.{*ℤ_comm}
use Rattle.fixed_math.proofs.Signed.{fits_low, fits_from_ends, times_neg, times_sum, sum_times, times_assoc, mul_mono, floor_at_most, floor_greatest, floor_from_low}
use Rattle.rc_base.specs.Numbers.{floor_quotient}
use Rattle.raster.specs.Planes.{IsWordResidue, IsByteQuotient, IsWordQuotient, IsFromTo}
use Rattle.raster.specs.Reciprocal.{IsReciprocal}
use Rattle.raster.proofs.Products.{between, cancel}

-- ---- modulo 2^128

pub word_residue_add : (a b : ℤ) (p q r : ℕ) → IsWordResidue a p → IsWordResidue b q → r ≡ (p + q) % 2 ^ 128 → IsWordResidue (a +ℤ b) r
word_residue_add a b p q r s t e = record {
  turns = s.turns +ℤ t.turns +ℤ pos ((p + q) / 2 ^ 128);
  is = let x = s.is in let y = t.is in omega (arith, ints);
}

pub word_residue_times : (a : ℤ) (p i r : ℕ) → IsWordResidue a p → r ≡ (i * p) % 2 ^ 128 → IsWordResidue (pos i *ℤ a) r
word_residue_times a p i r s e = record {
  turns = pos i *ℤ s.turns +ℤ pos ((i * p) / 2 ^ 128);
  is =
      let x : pos i *ℤ a ≡ pos i *ℤ (pos p +ℤ pos (2 ^ 128) *ℤ s.turns) = ap (λ z. pos i *ℤ z) s.is in
      let y = times_sum (pos p) (pos (2 ^ 128) *ℤ s.turns) (pos i) in
      let z = times_assoc (pos i) (pos (2 ^ 128)) s.turns in
      let u : pos i *ℤ pos (2 ^ 128) ≡ pos (2 ^ 128) *ℤ pos i = *ℤ_comm (pos i) (pos (2 ^ 128)) in
      let v : (pos i *ℤ pos (2 ^ 128)) *ℤ s.turns ≡ (pos (2 ^ 128) *ℤ pos i) *ℤ s.turns = ap (λ z. z *ℤ s.turns) u in
      let w = times_assoc (pos (2 ^ 128)) (pos i) s.turns in
      omega (arith, ints, x, y, z, v, w);
}

-- ---- quotients

pub word_quotient_add : (n m area : ℤ) (k l p q r : ℕ) → IsWordQuotient n area k p → IsWordQuotient m area l q → r ≡ (p + q) % 2 ^ 128 → IsWordQuotient (n +ℤ m) area (k + l) r
word_quotient_add n m area k l p q r s t e =
    let sum = times_sum s.whole t.whole area in
    let a = s.low in let b = t.low in let c = s.high in let d = t.high in
    record {
      whole = s.whole +ℤ t.whole;
      low = omega (arith, ints);
      high = omega (arith, ints);
      residue = word_residue_add s.whole t.whole p q r s.residue t.residue e;
    }

pub word_quotient_times : (n area : ℤ) (p i r : ℕ) → IsWordQuotient n area 1 p → r ≡ (i * p) % 2 ^ 128 → IsWordQuotient (pos i *ℤ n) area i r
word_quotient_times n area p i r s e =
    let f : area *ℤ (pos i *ℤ s.whole) ≡ pos i *ℤ (area *ℤ s.whole) =
    sym (times_assoc area (pos i) s.whole) ∙ ap (λ z. z *ℤ s.whole) (*ℤ_comm area (pos i)) ∙ times_assoc (pos i) area s.whole in
    let g : pos i *ℤ (pos (2 ^ 96) *ℤ n) ≡ pos (2 ^ 96) *ℤ (pos i *ℤ n) =
    sym (times_assoc (pos i) (pos (2 ^ 96)) n) ∙ ap (λ z. z *ℤ n) (*ℤ_comm (pos i) (pos (2 ^ 96))) ∙ times_assoc (pos (2 ^ 96)) (pos i) n in
    let a = mul_mono (pos i) _ _ (omega (arith, ints)) s.low in
    let b = mul_mono (pos i) _ _ (omega (arith, ints)) s.high in
    let h = times_sum (pos (2 ^ 96) *ℤ n) (pos (2 ^ 83 * 1)) (pos i) in
    let j : pos i *ℤ pos (2 ^ 83 * 1) ≡ pos (2 ^ 83 * i) = omega (arith, ints) in
    record {
      whole = pos i *ℤ s.whole;
      low = omega (arith, ints, f, g, a);
      high = omega (arith, ints, f, g, b, h, j);
      residue = word_residue_times s.whole p i r s.residue e;
    }

-- so few steps change no quotient
pub word_is_floor : (n area : ℤ) (k p : ℕ) → IsWordQuotient n area k p → k < 2 ^ 12 → p < 2 ^ 128 → pos 0 <ℤ area
    → pos 0 ≤ℤ (floor_quotient n area +ℤ pos (2 ^ 31)) → floor_quotient n area <ℤ pos (2 ^ 31)
    → (pos (((p + 2 ^ 127) % 2 ^ 128) / 2 ^ 96) -ℤ pos (2 ^ 31)) ≡ floor_quotient n area
word_is_floor n area k p s few fits some low high =
    let q = floor_quotient n area in
    let a = floor_at_most n area some in
    let b = floor_greatest n area some in
    let c = *ℤ_comm q area in
    let d = s.low in
    let e = s.high in
    let under = times_sum s.whole (pos 1) area in
    let over = times_sum (pos (2 ^ 96) *ℤ q) (pos (2 ^ 96)) area in
    let big : area *ℤ (pos (2 ^ 96) *ℤ q) ≡ pos (2 ^ 96) *ℤ (area *ℤ q) =
    sym (times_assoc area (pos (2 ^ 96)) q) ∙ ap (λ z. z *ℤ q) (*ℤ_comm area (pos (2 ^ 96))) ∙ times_assoc (pos (2 ^ 96)) area q in
    let one : area *ℤ pos 1 ≡ area = omega (arith, ints) in
    let unit : area *ℤ pos (2 ^ 96) ≡ pos (2 ^ 96) *ℤ area = *ℤ_comm area (pos (2 ^ 96)) in
    let l : (pos (2 ^ 96) *ℤ q) <ℤ (s.whole +ℤ pos 1) = cancel area _ _ some (omega (arith, ints, a, c, d, under, big, one, some)) in
    let h : s.whole <ℤ (pos (2 ^ 96) *ℤ q +ℤ pos (2 ^ 96)) = cancel area _ _ some (omega (arith, ints, b, c, e, over, big, unit, few)) in
    let w = s.residue.is in
    top_is q s.whole p s.residue.turns w l h fits low high
  where
    top_is : (q whole : ℤ) (p : ℕ) (turns : ℤ) → whole ≡ pos p +ℤ pos (2 ^ 128) *ℤ turns → (pos (2 ^ 96) *ℤ q) <ℤ (whole +ℤ pos 1) → whole <ℤ (pos (2 ^ 96) *ℤ q +ℤ pos (2 ^ 96))
        → p < 2 ^ 128 → pos 0 ≤ℤ (q +ℤ pos (2 ^ 31)) → q <ℤ pos (2 ^ 31) → (pos (((p + 2 ^ 127) % 2 ^ 128) / 2 ^ 96) -ℤ pos (2 ^ 31)) ≡ q
    top_is q whole p turns w l h fits low high = omega (arith, ints)

pub word_quotient_same : (n m area d : ℤ) (k p : ℕ) → n ≡ m → d ≡ area → IsWordQuotient n d k p → IsWordQuotient m area k p
word_quotient_same n m area d k p e f s = subst (λ (z : ℤ). IsWordQuotient z area k p) e (subst (λ (z : ℤ). IsWordQuotient n z k p) f s)

-- quotient and rest
pub euclid : (n d : ℤ) → pos 0 <ℤ d → floor_quotient n d *ℤ d +ℤ int_rem_euclid n d ≡ n
euclid (pos a) (pos k) h = omega (arith, ints)
euclid (negsuc a) (pos k) h = omega (arith, ints)
euclid n (negsuc k) h = absurd (omega (arith, ints))

apart : (area c q : ℤ) → area *ℤ (c *ℤ q) ≡ c *ℤ (q *ℤ area)
apart area c q = sym (times_assoc area c q) ∙ ap (λ z. z *ℤ q) (*ℤ_comm area c) ∙ times_assoc c area q ∙ ap (λ z. c *ℤ z) (*ℤ_comm area q)

-- a quotient in parts of 2^96 from a whole number and 2^64ths of the rest
pub wide_word_quotient : (n area q r f : ℤ) (p : ℕ) → q *ℤ area +ℤ r ≡ n → (f *ℤ area) ≤ℤ (pos (2 ^ 64) *ℤ r) → (pos (2 ^ 64) *ℤ r) <ℤ (f *ℤ area +ℤ area) → area ≤ℤ pos (2 ^ 43)
    → IsWordResidue (pos (2 ^ 96) *ℤ q +ℤ pos (2 ^ 32) *ℤ (f +ℤ pos 1)) p → IsWordQuotient n area 1 p
wide_word_quotient n area q r f p e low high small s =
    let a = times_sum (pos (2 ^ 96) *ℤ q) (pos (2 ^ 32) *ℤ (f +ℤ pos 1)) area in
    let b = apart area (pos (2 ^ 96)) q in
    let c = apart area (pos (2 ^ 32)) (f +ℤ pos 1) in
    let d = sum_times f (pos 1) area in
    let o : pos 1 *ℤ area ≡ area = omega (arith, ints) in
    record {
      whole = pos (2 ^ 96) *ℤ q +ℤ pos (2 ^ 32) *ℤ (f +ℤ pos 1);
      low = omega (arith, ints, a, b, c, d, o, e, high);
      high = omega (arith, ints, a, b, c, d, o, e, low, small);
      residue = s;
    }

pub word_residue_high : (q : ℤ) → IsWordResidue (pos (2 ^ 96) *ℤ q) (unsigned_abs (int_rem_euclid q (pos (2 ^ 32))) * 2 ^ 96)
word_residue_high (pos a) = record { turns = pos (a / 2 ^ 32); is = omega (arith, ints) }
word_residue_high (negsuc a) = record { turns = negsuc (a / 2 ^ 32); is = omega (arith, ints) }

-- 2^64ths of a rest are below one
pub wide_low : (r area : ℤ) → pos 0 <ℤ area → pos 0 ≤ℤ r → pos 0 ≤ℤ floor_quotient (pos (2 ^ 64) *ℤ r) area
wide_low r area h k = floor_from_low (pos (2 ^ 64) *ℤ r) area (pos 0) h (let z : area *ℤ pos 0 ≡ pos 0 = omega (arith, ints) in omega (arith, ints, z, k))

pub wide_high : (r area : ℤ) → pos 0 <ℤ area → r <ℤ area → floor_quotient (pos (2 ^ 64) *ℤ r) area <ℤ pos (2 ^ 64)
wide_high r area h k =
    let f = floor_quotient (pos (2 ^ 64) *ℤ r) area in
    let a = floor_at_most (pos (2 ^ 64) *ℤ r) area h in
    by_lt_z f (pos (2 ^ 64)) (λ m. m)
    (λ m. let g = mul_mono area (pos (2 ^ 64)) f (omega (arith, ints, h)) m in
    let c = *ℤ_comm f area in
    let d : area *ℤ pos (2 ^ 64) ≡ pos (2 ^ 64) *ℤ area = *ℤ_comm area (pos (2 ^ 64)) in
    absurd (omega (arith, ints, g, c, d, a, k)))

pub short_of : (z : ℤ) → FitsSigned w32 z → IsFromTo (neg_ℤ (pos (2 ^ 31))) (pos (2 ^ 31 - 1)) z
short_of z f = fits_low w32 z f

-- a number of 32 bits less 2^31 is a signed one
pub top_value : (x : ℕ) (q : ℤ) → x < 2 ^ 32 → (pos x -ℤ pos (2 ^ 31)) ≡ q → to_z w32 (of_z w32 (to_z w64 (of_z w64 (to_z w64 x -ℤ pos (2 ^ 31))))) ≡ q
top_value x q h e =
    let a : to_z w64 x ≡ pos x = omega (arith, ints, h) in
    let f : FitsSigned w64 q = fits_from_ends w64 q (omega (arith, ints, h, e)) (omega (arith, ints, h, e)) in
    let g : FitsSigned w32 q = fits_from_ends w32 q (omega (arith, ints, h, e)) (omega (arith, ints, h, e)) in
    rw (a, e, to_z-of_z f, to_z-of_z g) refl

-- ---- by the reciprocal

pub quotient_by_reciprocal : (m area : ℤ) (n r p : ℕ) → m ≡ pos n → IsReciprocal 96 area r → (m *ℤ area) ≤ℤ pos (2 ^ 83) → p ≡ (n * r) % 2 ^ 128 → IsWordQuotient m area 1 p
quotient_by_reciprocal m area n r p em s small e =
    let b = between area m (pos r) in
    let l = mul_mono m _ _ (omega (arith, ints, em)) s.low in
    let h = mul_mono m _ _ (omega (arith, ints, em)) s.high in
    let t = times_sum (pos (2 ^ 96)) area m in
    let c : m *ℤ pos (2 ^ 96) ≡ pos (2 ^ 96) *ℤ m = *ℤ_comm m (pos (2 ^ 96)) in
    let w : m *ℤ pos r ≡ pos (n * r) = ap (λ z. z *ℤ pos r) em in
    record {
      whole = m *ℤ pos r;
      low = omega (arith, ints, b, l, c);
      high = omega (arith, ints, b, h, t, c, small);
      residue = record { turns = pos ((n * r) / 2 ^ 128); is = omega (arith, ints, w, e) };
    }

-- of -m, by the reciprocal rounded down
pub quotient_by_reciprocal_below : (m area : ℤ) (n r q p : ℕ) → m ≡ pos n → IsReciprocal 96 area (q + 1) → (m *ℤ area) ≤ℤ pos (2 ^ 83)
    → r ≡ (n * q) % 2 ^ 128 → p ≡ (0 + (2 ^ 128 - r)) % 2 ^ 128 → IsWordQuotient (neg_ℤ m) area 1 p
quotient_by_reciprocal_below m area n r q p em s small er e =
    let u : pos (q + 1) ≡ pos q +ℤ pos 1 = omega (arith, ints) in
    let v : area *ℤ pos 1 ≡ area = omega (arith, ints) in
    let x : area *ℤ pos (q + 1) ≡ area *ℤ (pos q +ℤ pos 1) = ap (λ z. area *ℤ z) u in
    let y = times_sum (pos q) (pos 1) area in
    let k : area *ℤ pos (q + 1) ≡ area *ℤ pos q +ℤ area = omega (arith, ints, v, x, y) in
    let b = between area m (pos q) in
    let l = mul_mono m (area *ℤ pos q) (pos (2 ^ 96)) (omega (arith, ints, em)) (let h = s.high in omega (arith, ints, h, k)) in
    let h = mul_mono m (pos (2 ^ 96)) (area *ℤ pos q +ℤ area) (omega (arith, ints, em)) (let w = s.low in omega (arith, ints, w, k)) in
    let t = times_sum (area *ℤ pos q) area m in
    let c : m *ℤ pos (2 ^ 96) ≡ pos (2 ^ 96) *ℤ m = *ℤ_comm m (pos (2 ^ 96)) in
    let d = times_neg (pos (2 ^ 96)) m in
    let f = times_neg area (m *ℤ pos q) in
    let w : m *ℤ pos q ≡ pos (n * q) = ap (λ z. z *ℤ pos q) em in
    record {
      whole = neg_ℤ (m *ℤ pos q);
      low = omega (arith, ints, b, l, c, d, f);
      high = omega (arith, ints, b, h, t, c, d, f, small);
      residue = record { turns = pos ((2 ^ 128 - r) / 2 ^ 128) -ℤ pos 1 -ℤ pos ((n * q) / 2 ^ 128); is = omega (arith, ints, w, er, e) };
    }

-- from parts of 2^96 to parts of 2^56
pub byte_of_word : (n area : ℤ) (p q : ℕ) → IsWordQuotient n area 1 p → pos 0 <ℤ area → area ≤ℤ pos (2 ^ 43) → q ≡ ((p / 2 ^ 40) % 2 ^ 64 + 1) % 2 ^ 64 → IsByteQuotient n area 1 q
byte_of_word n area p q s some small e =
    let t = s.residue.turns in
    let w : ℤ = pos (p / 2 ^ 40 + 1) +ℤ pos (2 ^ 88) *ℤ t in
    let is = s.residue.is in
    let under : s.whole ≤ℤ (pos (2 ^ 40) *ℤ w) = omega (arith, ints, is) in
    let over : (pos (2 ^ 40) *ℤ w) ≤ℤ (s.whole +ℤ pos (2 ^ 40)) = omega (arith, ints, is) in
    let a = mul_mono area _ _ (omega (arith, ints, some)) under in
    let b = mul_mono area _ _ (omega (arith, ints, some)) over in
    let c = between area (pos (2 ^ 40)) w in
    let d = times_sum s.whole (pos (2 ^ 40)) area in
    let f : area *ℤ pos (2 ^ 40) ≡ pos (2 ^ 40) *ℤ area = *ℤ_comm area (pos (2 ^ 40)) in
    let low = s.low in
    let high = s.high in
    record {
      whole = w;
      low = omega (arith, ints, a, c, low);
      high = omega (arith, ints, b, c, d, f, high, small);
      residue = record { turns = pos (2 ^ 24) *ℤ t +ℤ pos ((p / 2 ^ 40) / 2 ^ 64) +ℤ pos (((p / 2 ^ 40) % 2 ^ 64 + 1) / 2 ^ 64); is = omega (arith, ints, e) };
    }

-- a reciprocal isn't 0
pub some_parts : (area : ℤ) (r : ℕ) → pos 0 <ℤ area → IsReciprocal 96 area r → r ≡ (r - 1) + 1
some_parts area zero some s =
    let z : area *ℤ pos 0 ≡ pos 0 = omega (arith, ints) in
    let l = s.low in
    absurd (omega (arith, ints, l, z))
some_parts area (suc r) some s = omega arith

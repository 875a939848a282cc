-- Numbers in parts of 2^56, modulo 2^64: sums, multiples, and the quotient that they give.
use Rattle.std.proofs.Common.{◌≡◌, ℕ, ◌+◌, ◌*◌, ◌^◌, ◌<◌, ◌/◌, ◌%◌, ℤ, pos, ◌+ℤ◌, ◌*ℤ◌, ◌≤ℤ◌, ◌<ℤ◌, arith, ap, sym, ◌∙◌, subst}
use Rattle.std.proofs.lemmas.Int.{ints}
use lib.IntN.{*ℤ_comm}
use Rattle.fixed_math.proofs.Signed.{times_sum, times_assoc, mul_mono, floor_at_most, floor_greatest}
use Rattle.rc_base.specs.Numbers.{floor_quotient}
use Rattle.raster.specs.Planes.{IsByteResidue, IsByteQuotient, IsFromTo}
use Rattle.raster.proofs.Products.{cancel}

-- ---- modulo 2^64

pub byte_residue_add : (a b : ℤ) (p q r : ℕ) → IsByteResidue a p → IsByteResidue b q → r ≡ (p + q) % 2 ^ 64 → IsByteResidue (a +ℤ b) r
byte_residue_add a b p q r s t e = record {
  turns = s.turns +ℤ t.turns +ℤ pos ((p + q) / 2 ^ 64);
  is = let x = s.is in let y = t.is in omega (arith, ints);
}

pub byte_residue_times : (a : ℤ) (p i r : ℕ) → IsByteResidue a p → r ≡ (i * p) % 2 ^ 64 → IsByteResidue (pos i *ℤ a) r
byte_residue_times a p i r s e = record {
  turns = pos i *ℤ s.turns +ℤ pos ((i * p) / 2 ^ 64);
  is =
      let x : pos i *ℤ a ≡ pos i *ℤ (pos p +ℤ pos (2 ^ 64) *ℤ s.turns) = ap (λ z. pos i *ℤ z) s.is in
      let y = times_sum (pos p) (pos (2 ^ 64) *ℤ s.turns) (pos i) in
      let z = times_assoc (pos i) (pos (2 ^ 64)) s.turns in
      let u : pos i *ℤ pos (2 ^ 64) ≡ pos (2 ^ 64) *ℤ pos i = *ℤ_comm (pos i) (pos (2 ^ 64)) in
      let v : (pos i *ℤ pos (2 ^ 64)) *ℤ s.turns ≡ (pos (2 ^ 64) *ℤ pos i) *ℤ s.turns = ap (λ z. z *ℤ s.turns) u in
      let w = times_assoc (pos (2 ^ 64)) (pos i) s.turns in
      omega (arith, ints, x, y, z, v, w);
}

-- ---- quotients

pub byte_quotient_add : (n m area : ℤ) (k l p q r : ℕ) → IsByteQuotient n area k p → IsByteQuotient m area l q → r ≡ (p + q) % 2 ^ 64 → IsByteQuotient (n +ℤ m) area (k + l) r
byte_quotient_add n m area k l p q r s t e =
    let sum = times_sum s.whole t.whole area in
    let a = s.low in let b = t.low in let c = s.high in let d = t.high in
    record {
      whole = s.whole +ℤ t.whole;
      low = omega (arith, ints);
      high = omega (arith, ints);
      residue = byte_residue_add s.whole t.whole p q r s.residue t.residue e;
    }

pub byte_quotient_times : (n area : ℤ) (p i r : ℕ) → IsByteQuotient n area 1 p → r ≡ (i * p) % 2 ^ 64 → IsByteQuotient (pos i *ℤ n) area i r
byte_quotient_times n area p i r s e =
    let f : area *ℤ (pos i *ℤ s.whole) ≡ pos i *ℤ (area *ℤ s.whole) =
    sym (times_assoc area (pos i) s.whole) ∙ ap (λ z. z *ℤ s.whole) (*ℤ_comm area (pos i)) ∙ times_assoc (pos i) area s.whole in
    let g : pos i *ℤ (pos (2 ^ 56) *ℤ n) ≡ pos (2 ^ 56) *ℤ (pos i *ℤ n) =
    sym (times_assoc (pos i) (pos (2 ^ 56)) n) ∙ ap (λ z. z *ℤ n) (*ℤ_comm (pos i) (pos (2 ^ 56))) ∙ times_assoc (pos (2 ^ 56)) (pos i) n in
    let a = mul_mono (pos i) _ _ (omega (arith, ints)) s.low in
    let b = mul_mono (pos i) _ _ (omega (arith, ints)) s.high in
    let h = times_sum (pos (2 ^ 56) *ℤ n) (pos (2 ^ 44 * 1)) (pos i) in
    let j : pos i *ℤ pos (2 ^ 44 * 1) ≡ pos (2 ^ 44 * i) = omega (arith, ints) in
    record {
      whole = pos i *ℤ s.whole;
      low = omega (arith, ints, f, g, a);
      high = omega (arith, ints, f, g, b, h, j);
      residue = byte_residue_times s.whole p i r s.residue e;
    }

-- so few steps change no quotient
pub byte_is_floor : (n area : ℤ) (k p : ℕ) → IsByteQuotient n area k p → k < 2 ^ 12 → p < 2 ^ 64 → pos 0 <ℤ area
    → pos 0 ≤ℤ floor_quotient n area → floor_quotient n area ≤ℤ pos 255 → pos (p / 2 ^ 56) ≡ floor_quotient n area
byte_is_floor n area k p s few fits some low high =
    let q = floor_quotient n area in
    let a = floor_at_most n area some in
    let b = floor_greatest n area some in
    let c = *ℤ_comm q area in
    let d = s.low in
    let e = s.high in
    let under = times_sum s.whole (pos 1) area in
    let over = times_sum (pos (2 ^ 56) *ℤ q) (pos (2 ^ 56)) area in
    let big : area *ℤ (pos (2 ^ 56) *ℤ q) ≡ pos (2 ^ 56) *ℤ (area *ℤ q) =
    sym (times_assoc area (pos (2 ^ 56)) q) ∙ ap (λ z. z *ℤ q) (*ℤ_comm area (pos (2 ^ 56))) ∙ times_assoc (pos (2 ^ 56)) area q in
    let one : area *ℤ pos 1 ≡ area = omega (arith, ints) in
    let unit : area *ℤ pos (2 ^ 56) ≡ pos (2 ^ 56) *ℤ area = *ℤ_comm area (pos (2 ^ 56)) in
    let l : (pos (2 ^ 56) *ℤ q) <ℤ (s.whole +ℤ pos 1) = cancel area _ _ some (omega (arith, ints, a, c, d, under, big, one, some)) in
    let h : s.whole <ℤ (pos (2 ^ 56) *ℤ q +ℤ pos (2 ^ 56)) = cancel area _ _ some (omega (arith, ints, b, c, e, over, big, unit, few)) in
    let w = s.residue.is in
    omega (arith, ints)

pub byte_quotient_same : (n m area d : ℤ) (k p : ℕ) → n ≡ m → d ≡ area → IsByteQuotient n d k p → IsByteQuotient m area k p
byte_quotient_same n m area d k p e f s = subst (λ (z : ℤ). IsByteQuotient z area k p) e (subst (λ (z : ℤ). IsByteQuotient n z k p) f s)

pub byte_of : (n : ℕ) → n < 256 → IsFromTo (pos 0) (pos 255) (pos n)
byte_of n h = (omega (arith, ints), omega (arith, ints, h))

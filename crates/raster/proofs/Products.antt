-- Products with a factor between, and factors from the order of their products.
use Rattle.std.proofs.Common.{◌≡◌, ◌∙◌, ℤ, pos, ◌*ℤ◌, ◌<ℤ◌, arith, ap, sym}
use Rattle.std.proofs.lemmas.Int.{ints, by_lt_z}
use lib.IntN.{*ℤ_comm}
use Rattle.fixed_math.proofs.Signed.{times_assoc, mul_mono}

-- a product with a factor between
pub between : (a m r : ℤ) → a *ℤ (m *ℤ r) ≡ m *ℤ (a *ℤ r)
between a m r = sym (times_assoc a m r) ∙ ap (λ z. z *ℤ r) (*ℤ_comm a m) ∙ times_assoc m a r

-- where area is above 0, a product by it orders as its factor
pub cancel : (area a b : ℤ) → pos 0 <ℤ area → (area *ℤ a) <ℤ (area *ℤ b) → a <ℤ b
cancel area a b h l =
    by_lt_z a b (λ m. m) (λ m. let k = mul_mono area b a (omega (arith, ints)) m in absurd (omega (arith, ints)))

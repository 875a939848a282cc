-- Channels two at a time.
use Rattle.std.proofs.Common.{◌≡◌, ℕ, ◌+◌, ◌-◌, ◌*◌, ◌/◌, ◌<◌, ◌≤◌, ◌∙◌, min, arith}
use Rattle.std.proofs.lemmas.Nat.{mul-le}
use Rattle.rc_base.specs.Colors.{prod}
use Rattle.fragment_ops.specs.Pairs.{pair_of}
use Rattle.fragment_ops.specs.Shortcuts.{laid_over}

-- division by 255, rounded, by two upper bytes
pub rounded_is : (n : ℕ) → n ≤ 65025 → ((n + 128) + (n + 128) / 256) / 256 ≡ (n + 127) / 255
rounded_is n h = omega arith

pub product_most : (a b : ℕ) → a < 256 → b < 256 → a * b ≤ 65025
product_most a b h k = mul-le a b 255 255 (omega arith) (omega arith)

pub scaled_is : (low high by : ℕ) → (low + high * 65536) * by ≡ pair_of (low * by) (high * by)
scaled_is low high by = grind arith

-- no part of a channel is above the part of 255
part_most : (a b : ℕ) → a < 256 → prod a b ≤ b
part_most a b h = let p : a * b ≤ 255 * b = mul-le a b 255 b (omega arith) (omega arith) in omega arith

pub prod_byte : (a b : ℕ) → a < 256 → b < 256 → prod a b < 256
prod_byte a b h k = let p : prod a b ≤ b = part_most a b h in omega (arith, p)

within : (p q alpha : ℕ) → p ≤ alpha → q ≤ 255 - alpha → alpha < 256 → p + q ≡ min 255 (p + q)
within p q alpha h k a = omega arith

held : (n : ℕ) → min 255 n < 256
held n = omega arith

-- a channel over the stored one is at most 255 without being held to it
over_sum : (source stored alpha : ℕ) → source < 256 → stored < 256 → alpha < 256 → prod source alpha + prod stored (255 - alpha) ≡ laid_over source stored alpha
over_sum source stored alpha h k a =
    within (prod source alpha) (prod stored (255 - alpha)) alpha (part_most source alpha h) (part_most stored (255 - alpha) k) a

pub over_byte : (source stored alpha : ℕ) → laid_over source stored alpha < 256
over_byte source stored alpha = held (prod source alpha + prod stored (255 - alpha))

add_pairs : (a b x y : ℕ) → pair_of a b + pair_of x y ≡ pair_of (a + x) (b + y)
add_pairs a b x y = omega arith

-- two channels over the stored ones
pub pair_over : (low high old_low old_high alpha : ℕ) → low < 256 → high < 256 → old_low < 256 → old_high < 256 → alpha < 256
    → pair_of (prod low alpha) (prod high alpha) + pair_of (prod old_low (255 - alpha)) (prod old_high (255 - alpha))
    ≡ pair_of (laid_over low old_low alpha) (laid_over high old_high alpha)
pair_over low high old_low old_high alpha l h ol oh a =
    add_pairs (prod low alpha) (prod high alpha) (prod old_low (255 - alpha)) (prod old_high (255 - alpha))
    ∙ (λ i. pair_of (over_sum low old_low alpha l ol a i) (over_sum high old_high alpha h oh a i))

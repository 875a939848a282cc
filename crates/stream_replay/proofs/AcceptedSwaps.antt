-- How many Swaps of a client were accepted, one command after the other.
use mir.Val.{bool_byte}
use Rattle.std.proofs.Common.{◌≡◌, ℕ, zero, suc, ◌+◌, ◌≤◌, Bool, true, false, refl, ap, arith, inl, inr, if◌then◌else◌, ◌∙◌}
use Rattle.std.proofs.lemmas.Bool.{cases_lt}
use Rattle.rc_base.specs.Contexts.Issue.{effect_at}
use Rattle.rc_base.specs.Drawing.Serial.{is_swap_effect, accepted_swaps}
use Rattle.rc_base.specs.declared.scene.Scene.{Scene}

pub swaps_next : (s : Scene) (client place : ℕ) → accepted_swaps s client (place + 1) ≡ accepted_swaps s client place + (if is_swap_effect (effect_at s client place) then 1 else 0)
unfolding accepted_swaps
swaps_next s client place = let e : place + 1 ≡ suc place = omega arith in ap (accepted_swaps s client) e

one_or_none : (b : Bool) → (if b then 1 else 0) ≤ 1
one_or_none true = omega arith
one_or_none false = omega arith

pub swaps_step : (s : Scene) (client place : ℕ) → accepted_swaps s client place ≤ accepted_swaps s client (place + 1)
swaps_step s client place = omega (arith, swaps_next s client place)

pub swaps_le : (s : Scene) (client i n : ℕ) → i ≤ n → accepted_swaps s client i ≤ accepted_swaps s client n
swaps_le s client i zero le = let same : i ≡ 0 = omega arith in rw same (omega arith)
swaps_le s client i (suc n) le = elim (cases_lt i (suc n)) [
  | inl lt ↦
      let e : n + 1 ≡ suc n = omega arith in
      let before = swaps_le s client i n (omega (arith, lt)) in
      let step = swaps_step s client n in
      omega (arith, before, step, ap (accepted_swaps s client) e)
  | inr ge ↦ let same : i ≡ suc n = omega arith in rw same (omega arith)
]

-- no more Swaps than commands
pub swaps_most : (s : Scene) (client n : ℕ) → accepted_swaps s client n ≤ n
unfolding accepted_swaps
swaps_most s client zero = omega arith
swaps_most s client (suc n) = omega (arith, swaps_most s client n, one_or_none (is_swap_effect (effect_at s client n)))

pub no_swaps : (s : Scene) (client : ℕ) → 0 ≡ accepted_swaps s client 0
unfolding accepted_swaps
no_swaps s client = refl

-- ---- a test as a number

pub byte_is : (b : Bool) → bool_byte b ≡ (if b then 1 else 0)
byte_is true = refl
byte_is false = refl

pub byte_most : (b : Bool) → bool_byte b ≤ 1
byte_most true = omega arith
byte_most false = omega arith

pub swaps_after_other : (s : Scene) (client place : ℕ) → is_swap_effect (effect_at s client place) ≡ false → accepted_swaps s client (place + 1) ≡ accepted_swaps s client place
swaps_after_other s client place is = swaps_next s client place ∙ ap (λ (b : Bool). accepted_swaps s client place + (if b then 1 else 0)) is ∙ omega arith

-- REPEAT by the sixteen bits below the point.
use Rattle.std.proofs.Common.{◌≡◌, ℕ, suc, ◌+◌, ◌*◌, ◌<◌, ◌/◌, ◌%◌, ℤ, pos, negsuc, ◌+ℤ◌, ◌*ℤ◌, arith, ap, sym, ◌∙◌, refl}
use Rattle.std.proofs.lemmas.Int.{ints, int_rem_euclid_is}
use Rattle.std.specs.Int.{int_rem_euclid}
use Rattle.std.proofs.lemmas.Nat.{mod-mul-add}
use lib.IntN.{*ℤ_comm}
use Rattle.rc_base.proofs.Signed.{sum_times, times_assoc, mul_mono}
use Rattle.rc_base.specs.Numbers.{floor_quotient}
use Rattle.rc_base.specs.Numbers.{natural}
use Rattle.rc_base.specs.Drawing.Texel.{texel_index}

parts : (c : ℤ) → floor_quotient c (pos 65536) *ℤ pos 65536 +ℤ int_rem_euclid c (pos 65536) ≡ c
parts (pos a) = omega (arith, ints)
parts (negsuc a) = omega (arith, ints)

floor_is : (z p : ℤ) (g : ℕ) → z ≡ p *ℤ pos 65536 +ℤ pos g → floor_quotient z (pos 65536) ≡ p +ℤ pos (g / 65536)
floor_is (pos a) p g e = omega (arith, ints, e)
floor_is (negsuc a) p g e = omega (arith, ints, e)

less_mod : (m n : ℕ) → m < n → m % n ≡ m
less_mod m n h = grind arith

-- whole sides more or less don't count
wraps : (q : ℤ) (n m : ℕ) → m < n → int_rem_euclid (q *ℤ pos n +ℤ pos m) (pos n) ≡ pos m
wraps (pos j) n m h = int_rem_euclid_is (pos j *ℤ pos n +ℤ pos m) (pos n) n 0 (j * n + m) (omega arith) refl (omega (arith, ints)) ∙ ap pos (mod-mul-add j n m h)
wraps (negsuc j) n m h = int_rem_euclid_is (negsuc j *ℤ pos n +ℤ pos m) (pos n) n (suc j) m (omega arith) refl (omega (arith, ints)) ∙ ap pos (less_mod m n h)

below : (f side : ℕ) → f < 65536 → 0 < side → (f * side) / 65536 < side
below f side h k =
    let m = mul_mono (pos side) (pos f) (pos 65535) (omega (arith, ints)) (omega (arith, ints, h)) in
    let c : pos side *ℤ pos f ≡ pos (f * side) = *ℤ_comm (pos side) (pos f) in
    omega (arith, ints, m, c, k)

pub repeated_is : (side f : ℕ) (c : ℤ) → 0 < side → f < 65536 → pos f ≡ int_rem_euclid c (pos 65536) → (f * side) / 65536 ≡ texel_index 0 side c
repeated_is side f c some small e =
    let q = floor_quotient c (pos 65536) in
    let a : c *ℤ pos side ≡ (q *ℤ pos side) *ℤ pos 65536 +ℤ pos (f * side) =
    sym (ap (λ z. z *ℤ pos side) (ap (λ z. q *ℤ pos 65536 +ℤ z) e ∙ parts c))
    ∙ sum_times (q *ℤ pos 65536) (pos f) (pos side)
    ∙ ap (λ z. z +ℤ pos (f * side)) (times_assoc q (pos 65536) (pos side) ∙ ap (λ z. q *ℤ z) (*ℤ_comm (pos 65536) (pos side)) ∙ sym (times_assoc q (pos side) (pos 65536))) in
    let g = floor_is (c *ℤ pos side) (q *ℤ pos side) (f * side) a in
    sym (ap natural (ap (λ z. int_rem_euclid z (pos side)) g ∙ wraps q side ((f * side) / 65536) (below f side small some)))

-- The identity times a vector is the vector.
use Rattle.std.proofs.Common.{◌≡◌, ℕ, ℤ, pos, List, ◌∷◌, [], ◌+ℤ◌, ◌*ℤ◌, ◌*◌, ◌^◌, arith, sym, subst, refl, length}
use Rattle.std.proofs.lemmas.Int.{ints}
use Rattle.rc_base.specs.Numbers.{floor_quotient, fixed_one, entry}
use Rattle.rc_base.specs.Contexts.Context.{identity}
use Rattle.rc_base.specs.declared.command.Mat4.{Mat4}
use Rattle.fixed_math.specs.Bounds.{AllWithin, four}
use Rattle.fixed_math.proofs.Signed.{floor_at_most, floor_greatest, all_within_more}
use Rattle.geometry.specs.Placed.{FixesVectors}

-- a sum of products that is 65536 times a number
pub floor_whole : (s a : ℤ) → s ≡ pos 65536 *ℤ a → floor_quotient s (pos fixed_one) ≡ a
floor_whole s a e =
    let l = floor_at_most s (pos fixed_one) (omega (arith, ints)) in
    let h = floor_greatest s (pos fixed_one) (omega (arith, ints)) in
    omega (arith, ints, e)

identity_fixes : FixesVectors identity.m
identity_fixes v =
    let a = floor_whole (pos 65536 *ℤ entry v 0 +ℤ pos 0 *ℤ entry v 1 +ℤ pos 0 *ℤ entry v 2 +ℤ pos 0 *ℤ entry v 3) (entry v 0) (omega (arith, ints)) in
    let b = floor_whole (pos 0 *ℤ entry v 0 +ℤ pos 65536 *ℤ entry v 1 +ℤ pos 0 *ℤ entry v 2 +ℤ pos 0 *ℤ entry v 3) (entry v 1) (omega (arith, ints)) in
    let c = floor_whole (pos 0 *ℤ entry v 0 +ℤ pos 0 *ℤ entry v 1 +ℤ pos 65536 *ℤ entry v 2 +ℤ pos 0 *ℤ entry v 3) (entry v 2) (omega (arith, ints)) in
    let d = floor_whole (pos 0 *ℤ entry v 0 +ℤ pos 0 *ℤ entry v 1 +ℤ pos 0 *ℤ entry v 2 +ℤ pos 65536 *ℤ entry v 3) (entry v 3) (omega (arith, ints)) in
    λ i. a i ∷ b i ∷ c i ∷ d i ∷ []

pub whole_four : (v : List ℤ) → length v ≡ 4 → v ≡ four v
whole_four [] e = absurd (omega (arith, e))
whole_four (a ∷ []) e = absurd (omega (arith, e))
whole_four (a ∷ b ∷ []) e = absurd (omega (arith, e))
whole_four (a ∷ b ∷ c ∷ []) e = absurd (omega (arith, e))
whole_four (a ∷ b ∷ c ∷ d ∷ []) e = refl
whole_four (a ∷ b ∷ c ∷ d ∷ f ∷ v) e = absurd (omega (arith, e))

pub wider : (v : List ℤ) (n : ℕ) → AllWithin n v → AllWithin (2 ^ 17 * n) v
wider v n h = all_within_more v n (2 ^ 17 * n) (omega arith) h

pub fixed_by : (m : Mat4) → m.m ≡ identity.m → FixesVectors m.m
fixed_by m e = subst (λ (n : List ℤ). FixesVectors n) (sym e) identity_fixes

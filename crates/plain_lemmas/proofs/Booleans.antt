-- Truth values: two tests with one answer, and what a test chooses.
use Rattle.std.proofs.Common.{◌≡◌, Bool, true, false, refl, true≢false, sym, ℕ, cond}
use Rattle.std.specs.Prelude.{if◌then◌else◌}

-- two tests that follow from each other have the same answer
pub same_test : (a b : Bool) → (a ≡ true → b ≡ true) → (b ≡ true → a ≡ true) → a ≡ b
same_test true b f g = sym (f refl)
same_test false true f g = g refl
same_test false false f g = refl

pub one_if_true : (b : Bool) → b ≡ true → cond {A = ℕ} b 1 0 ≡ 1
one_if_true b e = rw e refl

pub zero_if_false : (b : Bool) → b ≡ false → cond {A = ℕ} b 1 0 ≡ 0
zero_if_false b e = rw e refl

pub false_behind : (a b : Bool) → cond a true b ≡ false → b ≡ false
false_behind true b e = absurd (true≢false e)
false_behind false b e = e

-- a test between two values that are one
pub if_same : {A : Type 0} (b : Bool) (x : A) → (if b then x else x) ≡ x
if_same true x = refl
if_same false x = refl

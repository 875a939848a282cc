-- Comparisons by the outcomes that pass.
use Rattle.std.proofs.Common.{◌≡◌, ℕ, ◌==◌, not, nat_lt, nat_le, Bool, true, false, arith, refl}
use Rattle.std.proofs.Math.Bool.{or-false}
use Rattle.fragment_ops.specs.DepthTests.{passes}

pub none_is : (stores : Bool) (a b : ℕ) → passes (record { below = false; equal = false; above = false; stores = stores }) a b ≡ false
unfolding passes
none_is stores a b = refl

pub less_is : (stores : Bool) (a b : ℕ) → passes (record { below = true; equal = false; above = false; stores = stores }) a b ≡ nat_lt a b
unfolding passes
less_is stores a b = or-false (nat_lt a b)

pub equal_is : (stores : Bool) (a b : ℕ) → passes (record { below = false; equal = true; above = false; stores = stores }) a b ≡ (a == b)
unfolding passes
equal_is stores a b = or-false (a == b)

pub at_most_is : (stores : Bool) (a b : ℕ) → passes (record { below = true; equal = true; above = false; stores = stores }) a b ≡ nat_le a b
unfolding passes
at_most_is stores a b = grind arith

pub greater_is : (stores : Bool) (a b : ℕ) → passes (record { below = false; equal = false; above = true; stores = stores }) a b ≡ nat_lt b a
unfolding passes
greater_is stores a b = refl

pub other_is : (stores : Bool) (a b : ℕ) → passes (record { below = true; equal = false; above = true; stores = stores }) a b ≡ not (a == b)
unfolding passes
other_is stores a b = grind arith

pub at_least_is : (stores : Bool) (a b : ℕ) → passes (record { below = false; equal = true; above = true; stores = stores }) a b ≡ nat_le b a
unfolding passes
at_least_is stores a b = grind arith

pub all_is : (stores : Bool) (a b : ℕ) → passes (record { below = true; equal = true; above = true; stores = stores }) a b ≡ true
unfolding passes
all_is stores a b = grind arith

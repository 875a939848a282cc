-- The reciprocal of an area, and of an edge's step.
use Rattle.std.specs.Prelude.{ℕ, ◌^◌, ℤ, pos, ◌+ℤ◌, ◌*ℤ◌, ◌≤ℤ◌}

-- 1 / whole in parts of 2^places, rounded up
pub record IsReciprocal (places : ℕ) (whole : ℤ) (parts : ℕ) : Type 0 where
  pub low : pos (2 ^ places) ≤ℤ (whole *ℤ pos parts)
  pub high : (whole *ℤ pos parts) ≤ℤ (pos (2 ^ places) +ℤ whole)

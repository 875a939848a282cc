-- Why a call on an object outside may fail: the object's own count of faults rose in it.
use Rattle.std.specs.Prelude.{◌≡◌, ℕ, ◌+◌, ◌-◌, ◌^◌, ◌<◌, ◌≤◌, ◌⊎◌, min, Result, OnErr, OnOk}

-- the end of a count of 64 bits, where it stands still
abbrev pub last_count : ℕ
last_count = 2 ^ 64 - 1

-- a count after one more event
abbrev pub risen : ℕ → ℕ
risen count = min (count + 1) last_count

-- Between two moments a count rose, by one or more. One that stands at its end can rise no further, and is taken to have risen.
abbrev pub Rose : ℕ → ℕ → Type 0
Rose before now = (before < now) ⊎ ((before ≡ last_count) × (now ≡ last_count))

-- What one call says of its object's count of faults: an answer leaves it as it was, and an error comes only where it rose, by the one refused call.
pub record HasCause {T E : Type 0} (before now : ℕ) (result : Result T E) : Type 0 where
  pub later : before ≤ now
  pub failed : OnErr result (Rose before now)
  pub once : OnErr result (now ≡ risen before)
  pub passed : OnOk result (now ≡ before)

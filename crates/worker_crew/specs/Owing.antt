-- Whom a thread owes a ring: by place, how much was given there since that was last rung.
use Rattle.std.specs.Prelude.{◌≡◌, ◌≢◌, ◌⊎◌, ◌+◌, ◌<◌, ℕ, List, slice_index_or}

-- how much was given to the worker of a place
abbrev pub given_to : List ℕ → ℕ → ℕ
given_to given place = slice_index_or given place 0

-- nobody of the 64 places that are counted for is owed anything
abbrev pub IsNothing : List ℕ → Type 0
IsNothing given = (place : ℕ) → place < 64 → given_to given place ≡ 0

-- one thing more was given to the worker of a place
pub record IsCounted (place : ℕ) (before after : List ℕ) : Type 0 where
  pub mine : given_to after place ≡ given_to before place + 1
  pub others : (other : ℕ) → other ≢ place → given_to after other ≡ given_to before other

-- the worker of a place is owed nothing more
pub record IsSettled (place : ℕ) (before after : List ℕ) : Type 0 where
  pub mine : given_to after place ≡ 0
  pub others : (other : ℕ) → other ≢ place → given_to after other ≡ given_to before other

-- something was given to the worker of a place: that is counted, or it was rung
abbrev pub IsGift : ℕ → List ℕ → List ℕ → Type 0
IsGift place before after = IsCounted place before after ⊎ IsSettled place before after

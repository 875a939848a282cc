-- Lists of lanes before and after a step.
use Rattle.std.specs.Prelude.{◌≡◌, ℕ, ◌<◌, ◌≤◌, ◌⊎◌, Bool, true, List, ◌∷◌, [], ◌++◌, length, slice_index_or}

module _ {L : Type 0} where
  -- each lane is related by its number to what it was
  pub record EachLane (related : ℕ → L → L → Type 0) (before after : List L) : Type 0 where
    pub count : length after ≡ length before
    pub at : (i : ℕ) (d : L) → i < length before → related i (slice_index_or before i d) (slice_index_or after i d)

-- what lanes gave, by a meaning that grows by each item that a lane gives, and stays where it gives none
pub record Follows {I X : Type 0} (gave : I → X → I → Type 0) (same : I → I → Type 0) (taken : I → List X) : Type 0 where
  pub grows : (a b : I) (x : X) → gave a x b → taken b ≡ taken a ++ x ∷ []
  pub stays : (a b : I) → same a b → taken b ≡ taken a

-- in a rotation that begins with lane `start`, lane i is tried before lane c
abbrev pub IsEarlier : ℕ → ℕ → ℕ → Type 0
IsEarlier start c i = ((start ≤ i) × (i < c)) ⊎ ((c < start) × ((start ≤ i) ⊎ (i < c)))

-- lane i is one of those that are asked
abbrev pub IsAsked : List Bool → ℕ → Type 0
IsAsked asks i = slice_index_or asks i true ≡ true

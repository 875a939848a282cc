-- Which elements are dirty for which server: a number of 32 bits for each element, with a bit for each server.
use Rattle.std.specs.Prelude.{◌≡◌, ℕ, ◌<◌, ◌==◌, ◌||◌, Bool, List, length, slice_index}
use Rattle.std.specs.Int.{bit_at}
use Rattle.std.specs.List.{range_with_len, list_any}
use Rattle.rc_base.specs.Contexts.Elements.{element_count, group_sizes}
use Rattle.element_table.specs.Groups.{group_start}

-- an element is dirty for a server
abbrev pub is_dirty : List ℕ → ℕ → ℕ → Bool
is_dirty words e server = bit_at (slice_index words e) server == 1

-- one of so many elements from the first on is dirty for the server
abbrev pub is_one_dirty : List ℕ → ℕ → ℕ → ℕ → Bool
is_one_dirty words first count server = list_any (λ e. is_dirty words e server) (range_with_len first count)

-- an element of the group is
abbrev pub is_group_dirty : List ℕ → ℕ → ℕ → Bool
is_group_dirty words g = is_one_dirty words (group_start g) (slice_index group_sizes g)

-- any element is
abbrev pub is_any_dirty : List ℕ → ℕ → Bool
is_any_dirty words = is_one_dirty words 0 element_count

-- an element is dirty for each server now, and each other one as before
abbrev pub IsMarked : ℕ → List ℕ → List ℕ → Type 0
IsMarked element old new = (e server : ℕ) → server < 32 → is_dirty new e server ≡ (e == element || is_dirty old e server)

-- each group's word has the servers for which an element of the group is dirty, and the top those for which any element is
pub record IsHierarchy (elements groups : List ℕ) (top : ℕ) : Type 0 where
  pub of_groups : (g server : ℕ) → g < length group_sizes → server < 32 → is_dirty groups g server ≡ is_group_dirty elements g server
  pub of_top : (server : ℕ) → server < 32 → (bit_at top server == 1) ≡ is_any_dirty elements server

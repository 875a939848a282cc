-- The groups of elements.
use Rattle.std.specs.Prelude.{ℕ, ◌+◌, ◌<◌, ◌≤◌, length, slice_index, sum, take}
use Rattle.rc_base.specs.Contexts.Elements.{group_sizes}

-- the first element of a group; of the number behind the last group, how many elements there are
abbrev pub group_start : ℕ → ℕ
group_start g = sum (take g group_sizes)

-- an element stands in a group
pub record IsGroupOf (e g : ℕ) : Type 0 where
  pub group : g < length group_sizes
  pub low : group_start g ≤ e
  pub high : e < group_start g + slice_index group_sizes g

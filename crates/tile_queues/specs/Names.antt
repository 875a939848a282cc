-- Which lanes the ends of a list are of.
use Rattle.std.specs.Prelude.{◌≡◌, ◌<◌, ℕ, List, length, slice_index_or}
use Rattle.tile_queues.specs.Ends.{lane_in, lane_out}
use Rattle.tile_queues.specs.declared.ends.LaneIn.{LaneIn}
use Rattle.tile_queues.specs.declared.ends.LaneOut.{LaneOut}

module _ {T R : Type 0} where
  -- so many sending ends, each of the lane that has this name
  pub record AreInto (count : ℕ) (names : ℕ → List ℕ) (ends : List (LaneIn T R)) : Type 0 where
    pub size : length ends ≡ count
    pub named : (i : ℕ) (d : LaneIn T R) → i < count → lane_in (slice_index_or ends i d) ≡ names i

  -- so many receiving ends, each of the lane that has this name
  pub record AreOutOf (count : ℕ) (names : ℕ → List ℕ) (ends : List (LaneOut T R)) : Type 0 where
    pub size : length ends ≡ count
    pub named : (i : ℕ) (d : LaneOut T R) → i < count → lane_out (slice_index_or ends i d) ≡ names i

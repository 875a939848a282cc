-- The parts of all tiles, taken frame by frame.
use Rattle.std.specs.Prelude.{◌≡◌, ℕ, ◌+◌, ◌<◌, ◌≤◌, List, length, slice_index_or, drop, Vec}
use Rattle.std.specs.Global.{Global}
use Rattle.std.specs.declared.collections.VecDeque.{VecDeque}
use Rattle.rc_base.specs.declared.cluster.TilePart.{TilePart}
use Rattle.run_record.specs.Gathering.{AreInFrames}

-- a list, to be taken from its front
abbrev pub IsQueueOf : ℕ → Vec TilePart Global → VecDeque TilePart Global → Type 0
IsQueueOf tile list queue = queue.items ≡ list.items

-- the first n tiles gave their next part
pub record AreTakenBelow (n : ℕ) (old : List (VecDeque TilePart Global)) (parts : List TilePart) (new : List (VecDeque TilePart Global)) (parts' : List TilePart)
    : Type 0 where
  pub queues : length new ≡ length old
  pub count : length parts' ≡ length parts + n
  pub before : (k : ℕ) (x : TilePart) → k < length parts → slice_index_or parts' k x ≡ slice_index_or parts k x
  pub at : (tile : ℕ) (d : VecDeque TilePart Global) (x : TilePart) → tile < n → tile < length old
      → slice_index_or parts' (length parts + tile) x ≡ slice_index_or (slice_index_or old tile d).items 0 x
  pub took : (tile : ℕ) (d : VecDeque TilePart Global) → tile < n → tile < length old → (slice_index_or new tile d).items ≡ drop 1 (slice_index_or old tile d).items
  pub rest : (tile : ℕ) (d : VecDeque TilePart Global) → n ≤ tile → slice_index_or new tile d ≡ slice_index_or old tile d

-- so many frames were taken of the queues
pub record AreTurned (frames : ℕ) (lists : List (Vec TilePart Global)) (queues : List (VecDeque TilePart Global)) (parts : List TilePart) : Type 0 where
  pub queue_count : length queues ≡ length lists
  pub left : (tile : ℕ) (d : VecDeque TilePart Global) (e : Vec TilePart Global) → tile < length lists
      → (slice_index_or queues tile d).items ≡ drop frames (slice_index_or lists tile e).items
  pub done : AreInFrames frames lists parts

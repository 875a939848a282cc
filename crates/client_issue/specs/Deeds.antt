-- What a step of a client does with the next item of its sequence.
use Rattle.std.specs.Prelude.{ℕ, Bool, true, false, Option, Some, None, Result, Ok, Err}
use Rattle.std.specs.Option.{option_map_or}
use Rattle.rc_base.specs.Cluster.Sending.{Sending, ToTile, ToManager}
use Rattle.rc_base.specs.declared.cluster.ClientMoved.{ClientMoved}
use Rattle.rc_base.specs.declared.cluster.ClientMoved.TheVariants as moved
use Rattle.rc_base.specs.declared.out_of_memory.OutOfMemory.{OutOfMemory}
use Rattle.rc_base.specs.declared.state.Parcel.{Parcel}
use Rattle.rc_base.specs.declared.sync.Request.{Request}
use Rattle.client_issue.specs.Sequence.{issued_for}

-- what a step does, with the item
pub data ClientDeed : Type 0 where
  -- it appends the parcel for its tile
  Appends : (tile : ℕ) (parcel : Parcel) → ClientDeed
  -- it appends the request for the manager
  Requests : (r : Request) → ClientDeed
  -- the tile's lane is full, and the parcel waits
  FindsTileFull : (tile : ℕ) (parcel : Parcel) → ClientDeed
  -- the manager's lane is full, and the request waits
  FindsManagerFull : (r : Request) → ClientDeed
  -- nothing is left to be sent
  Finishes : ClientDeed
  -- memory lacks for an item of a command
  Loses : ClientDeed

-- what the step answers
abbrev pub answer_of : ClientDeed → Result ClientMoved OutOfMemory
answer_of (Appends tile parcel) = Ok (moved.Appended tile)
answer_of (Requests r) = Ok moved.Requested
answer_of (FindsTileFull tile parcel) = Ok (moved.BlockedTile tile)
answer_of (FindsManagerFull r) = Ok moved.BlockedRequest
answer_of Finishes = Ok moved.Ended
answer_of Loses = Err (record {})

-- memory lacks in it
abbrev pub is_loss : ClientDeed → Bool
is_loss (Appends tile parcel) = false
is_loss (Requests r) = false
is_loss (FindsTileFull tile parcel) = false
is_loss (FindsManagerFull r) = false
is_loss Finishes = false
is_loss Loses = true

-- the item that it is with
abbrev pub item_in : ClientDeed → Option Sending
item_in (Appends tile parcel) = Some (ToTile tile parcel)
item_in (Requests r) = Some (ToManager r)
item_in (FindsTileFull tile parcel) = Some (ToTile tile parcel)
item_in (FindsManagerFull r) = Some (ToManager r)
item_in Finishes = None
item_in Loses = None

-- of so many commands, those up to the item's own; all where no item is left
abbrev pub issued_up_to : ℕ → ClientDeed → ℕ
issued_up_to count deed = option_map_or (issued_for count) (item_in deed) count

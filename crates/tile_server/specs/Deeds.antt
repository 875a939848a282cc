-- What a step of a tile does, by how far the tile is: the first of its cases that applies.
use Rattle.std.specs.Prelude.{◌≡◌, ◌≢◌, ℕ, suc, ◌<◌, ◌==◌, Bool, true, false, cond, ◌⊎◌, Option, Some, None, Result, Ok, Err}
use Rattle.rc_base.specs.Cluster.Lanes.{IsEarlier}
use Rattle.rc_base.specs.declared.cluster.TileMoved.{TileMoved}
use Rattle.rc_base.specs.declared.cluster.TileMoved.TheVariants as moved
use Rattle.rc_base.specs.declared.out_of_memory.OutOfMemory.{OutOfMemory}
use Rattle.rc_base.specs.declared.state.Act.{Act}
use Rattle.rc_base.specs.declared.state.Act.TheVariants as act
use Rattle.rc_base.specs.declared.state.Parcel.{Parcel}
use Rattle.rc_base.specs.declared.sync.Entry.{Entry}
use Rattle.rc_base.specs.declared.sync.Entry.TheVariants.{Swap}
use Rattle.rc_base.specs.declared.sync.Grant.{Grant}
use Rattle.rc_base.specs.declared.sync.Grant.TheVariants as grant
use Rattle.rc_base.specs.Cluster.Parcels.{is_end}
use Rattle.order_model.specs.Standing.{Progress}
use Rattle.tile_model.specs.Acts.{is_work}
use Rattle.tile_model.specs.Items.{Item, after_item, IsAwaited}
use Rattle.tile_model.specs.Items.Item.{Nothing, Due, Granted, NoMore, Sent}
use Rattle.tile_model.specs.Short.{after_lost, asks, listens, IsFinished, NothingIsDue}
use Rattle.tile_server.specs.declared.deed.Taking.{Taking}
use Rattle.tile_server.specs.declared.deed.Taking.TheVariants.{Works, Holds, Closes, Drops, Loses}
use Rattle.tile_server.specs.declared.deed.TileDeed.{TileDeed}
use Rattle.tile_server.specs.declared.deed.TileDeed.TheVariants.{Performs, Shows, Fails, Learns, Takes, Rests, Finishes}

-- ---- acts

-- it waits for an entry
abbrev pub is_wait : Act → Bool
is_wait (act.Draw block) = false
is_wait (act.Clear mask) = false
is_wait (act.Shared part) = false
is_wait (act.Sync op) = true
is_wait act.End = false

-- ---- what a deed is

-- its item
abbrev pub item_of : TileDeed → Item
item_of (Performs e) = Due e
item_of (Shows part) = Due Swap
item_of Fails = Nothing
item_of (Learns (grant.Entry e)) = Granted e
item_of (Learns grant.NoMore) = NoMore
item_of (Takes client parcel how) = Sent client parcel
item_of Rests = Nothing
item_of Finishes = Nothing

-- memory lacks for the parcel
abbrev pub is_lost : Taking → Bool
is_lost Works = false
is_lost Holds = false
is_lost Closes = false
is_lost Drops = false
is_lost Loses = true

-- memory lacks in it
abbrev pub is_loss : TileDeed → Bool
is_loss (Performs e) = false
is_loss (Shows part) = false
is_loss Fails = true
is_loss (Learns g) = false
is_loss (Takes client parcel how) = is_lost how
is_loss Rests = false
is_loss Finishes = false

-- what a step answers that takes a parcel of the client
abbrev pub taking_answer : ℕ → Taking → Result TileMoved OutOfMemory
taking_answer client Works = Ok (moved.Took client)
taking_answer client Holds = Ok (moved.Held client)
taking_answer client Closes = Ok (moved.Closed client)
taking_answer client Drops = Ok (moved.Dropped client)
taking_answer client Loses = Err (record {})

-- what the step answers
abbrev pub answer_of : TileDeed → Result TileMoved OutOfMemory
answer_of (Performs e) = Ok moved.Performed
answer_of (Shows part) = Ok (moved.Swapped part)
answer_of Fails = Err (record {})
answer_of (Learns g) = Ok moved.Learnt
answer_of (Takes client parcel how) = taking_answer client how
answer_of Rests = Ok moved.Blocked
answer_of Finishes = Ok moved.Ended

-- the answer is that of a deed of which this holds
abbrev pub AnswersDeed : Result TileMoved OutOfMemory → (TileDeed → Type 0) → Type 0
AnswersDeed answer holds = (did : TileDeed) × (answer ≡ answer_of did) × holds did

-- ---- which deed is next, for a tile that is short or isn't

-- a parcel of the client may be taken
pub record MayTake (short : Bool) (p : Progress) (client : ℕ) : Type 0 where
  pub undue : NothingIsDue short p
  pub low : client < p.count
  pub asked : asks short p client ≡ true

-- What becomes of the parcel. An operation's parcel may be lost too, since reading it takes memory; an End and a parcel that is dropped aren't read.
abbrev pub IsTaken : Bool → Progress → ℕ → Parcel → Taking → Type 0
IsTaken short p client parcel Works = (short ≡ false) × (p.held client ≡ false) × (is_work parcel.act ≡ true)
IsTaken short p client parcel Holds = (short ≡ false) × (p.held client ≡ false) × (is_wait parcel.act ≡ true)
IsTaken short p client parcel Closes = is_end parcel.act ≡ true
IsTaken short p client parcel Drops = ((short ≡ true) ⊎ (p.held client ≡ true)) × (is_end parcel.act ≡ false)
IsTaken short p client parcel Loses = (short ≡ false) × (p.held client ≡ false) × (is_end parcel.act ≡ false)

abbrev pub IsNextDeed : Bool → Progress → TileDeed → Type 0
IsNextDeed short p (Performs e) = (short ≡ false) × (e ≢ Swap) × IsAwaited p (Due e)
IsNextDeed short p (Shows part) = (short ≡ false) × IsAwaited p (Due Swap)
IsNextDeed short p Fails = (short ≡ false) × ((e : Entry) × IsAwaited p (Due e))
IsNextDeed short p (Learns g) = NothingIsDue short p × (listens short p ≡ true)
IsNextDeed short p (Takes client parcel how) = MayTake short p client × IsTaken short p client parcel how
IsNextDeed short p Rests = NothingIsDue short p × (IsFinished short p → ⊥)
IsNextDeed short p Finishes = NothingIsDue short p × IsFinished short p

-- ---- how far the tile is after it

-- `short` tells whether the tile is short after the deed
abbrev pub progress_after : Bool → Progress → TileDeed → Progress
progress_after short p deed = cond short (after_lost p (item_of deed)) (after_item p (item_of deed))

-- the client with which the rotation goes on
abbrev pub next_after : ℕ → TileDeed → ℕ
next_after next (Performs e) = next
next_after next (Shows part) = next
next_after next Fails = next
next_after next (Learns g) = next
next_after next (Takes client parcel how) = suc client
next_after next Rests = next
next_after next Finishes = next

-- ---- its lanes

-- what it takes of a client
abbrev pub taken_of : TileDeed → ℕ → Option Parcel
taken_of (Performs e) i = None
taken_of (Shows part) i = None
taken_of Fails i = None
taken_of (Learns g) i = None
taken_of (Takes client parcel how) i = cond (i == client) (Some parcel) None
taken_of Rests i = None
taken_of Finishes i = None

-- what it takes of the grant lane
abbrev pub granted_of : TileDeed → Option Grant
granted_of (Performs e) = None
granted_of (Shows part) = None
granted_of Fails = None
granted_of (Learns g) = Some g
granted_of (Takes client parcel how) = None
granted_of Rests = None
granted_of Finishes = None

-- It finds the client's lane empty: a parcel is taken of the first lane that has one, in rotation from `next` on, of those that the tile takes from.
abbrev pub IsFoundEmpty : Bool → Progress → ℕ → TileDeed → ℕ → Type 0
IsFoundEmpty short p next (Performs e) i = ⊥
IsFoundEmpty short p next (Shows part) i = ⊥
IsFoundEmpty short p next Fails i = ⊥
IsFoundEmpty short p next (Learns g) i = ⊥
IsFoundEmpty short p next (Takes client parcel how) i = IsEarlier next client i × (asks short p i ≡ true)
IsFoundEmpty short p next Rests i = asks short p i ≡ true
IsFoundEmpty short p next Finishes i = asks short p i ≡ true

-- it finds the grant lane empty: where it takes what is granted, it takes nothing else before that
abbrev pub IsUnheard : Bool → Progress → TileDeed → Type 0
IsUnheard short p (Performs e) = ⊥
IsUnheard short p (Shows part) = ⊥
IsUnheard short p Fails = ⊥
IsUnheard short p (Learns g) = ⊥
IsUnheard short p (Takes client parcel how) = listens short p ≡ true
IsUnheard short p Rests = listens short p ≡ true
IsUnheard short p Finishes = listens short p ≡ true

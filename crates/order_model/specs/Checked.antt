-- What the checker of an order computes: where names stand, and tests over entries and units that go by it.
use Rattle.std.specs.Prelude.{◌≡◌, ℕ, suc, ◌+◌, ◌-◌, ◌<◌, ◌≤◌, ◌==◌, ◌&&◌, nat_lt, nat_le, bytes_eq, Bool, true, false, cond, List, [], ◌∷◌, take, drop, map, length, slice_get, slice_index, slice_set, Option, Some, None, option_map, option_to_list, ◌++◌}
use Rattle.rc_base.specs.Orders.Journal.{is_member, sync_state_after}
use Rattle.rc_base.specs.Orders.Order.{PlacedEntry, entries_from, givers, takers}
use Rattle.rc_base.specs.Orders.Sync.{IsWellFormed, client_count, ops_of, units_of}
use Rattle.rc_base.specs.declared.sync.Entry.{Entry}
use Rattle.rc_base.specs.declared.sync.Entry.TheVariants.{Meet, Swap, Give, Take}
use Rattle.rc_base.specs.declared.sync.Name.{Name}
use Rattle.rc_base.specs.declared.sync.SyncLists.{SyncLists}
use Rattle.rc_base.specs.declared.sync.WaitAt.{WaitAt}
use Rattle.order_model.specs.Counted.{place_at, place_or_end, AreUsed}
use Rattle.order_model.specs.declared.spots.Walk.{Walk}

-- ---- each client's names

-- the names are, for each client, those from its next place up to its end, in their order
abbrev pub runs_to : List ℕ → List ℕ → List Name → Bool
runs_to ends next [] = bytes_eq next ends
runs_to ends next (n ∷ ns) =
    nat_lt n.client (length ends) && ((n.place == slice_index next n.client) && (nat_lt n.place (slice_index ends n.client)
    && runs_to ends (slice_set next n.client (slice_index next n.client + 1)) ns))

-- ---- where names stand

-- the name is of the client, and of this place or a later one
abbrev pub is_from : ℕ → ℕ → Name → Bool
is_from client place n = (n.client == client) && nat_le place n.place

-- where the first such name stands, else the end of the order
abbrev pub first_at : List Name → ℕ → ℕ → ℕ
first_at [] client place = 0
first_at (n ∷ ns) client place = cond (is_from client place n) 0 (suc (first_at ns client place))

-- where a name stands
abbrev pub spot_of : List Name → Name → ℕ
spot_of order n = first_at order n.client n.place

-- ---- entries that part two clients' names

-- the first client's names before its operation stand before the second's names behind its own
abbrev pub are_parted : List Name → ℕ → Option ℕ → ℕ → Option ℕ → Bool
are_parted order a (Some i) b (Some j) = cond (nat_lt 0 i) (nat_le (first_at order a (i - 1)) (first_at order b (j + 1))) true
are_parted order a (Some i) b None = true
are_parted order a None b j = true

abbrev pub all_part : List Name → ℕ → ℕ → List PlacedEntry → Bool
all_part order a b [] = true
all_part order a b (m ∷ ms) = are_parted order a (m.at a) b (m.at b) && all_part order a b ms

-- the place of a client's operation in an entry, if it is a member, by how many operations it has used
abbrev pub place_by : SyncLists → Entry → ℕ → ℕ → Option ℕ
place_by syncs e client number =
    cond (is_member (client_count syncs) e client) (place_at (ops_of syncs client) number) None

-- the same of the operations of two clients in an entry, by how many each of them has used
abbrev pub parts : SyncLists → List Name → Entry → ℕ → ℕ → ℕ → ℕ → Bool
parts syncs order entry a used_a b used_b = are_parted order a (place_by syncs entry a used_a) b (place_by syncs entry b used_b)

-- where the first name of a client stands from the place before its next operation on, and from the place behind it
abbrev pub spot_before : SyncLists → List Name → ℕ → ℕ → ℕ
spot_before syncs order client used = first_at order client (place_or_end syncs client used - 1)

abbrev pub spot_behind : SyncLists → List Name → ℕ → ℕ → ℕ
spot_behind syncs order client used = first_at order client (place_or_end syncs client used + 1)

-- ---- units that are handed over

-- the first spot is before the second list's first, the second before its second, as far as both go
abbrev pub are_in_turn : List ℕ → List ℕ → Bool
are_in_turn [] ts = true
are_in_turn (g ∷ gs) [] = true
are_in_turn (g ∷ gs) (t ∷ ts) = nat_lt g t && are_in_turn gs ts

-- the names that give units of a semaphore, or those that take them
abbrev pub unit_names : Bool → ℕ → List PlacedEntry → List Name
unit_names gives semaphore ms = cond gives (givers semaphore ms) (takers semaphore ms)

-- where they stand, behind so many entries of a journal
abbrev pub unit_spots : SyncLists → List Entry → List Name → Bool → ℕ → ℕ → List ℕ
unit_spots syncs journal order gives semaphore read =
    map (spot_of order) (unit_names gives semaphore (entries_from syncs (sync_state_after syncs (take read journal)) (drop read journal)))

-- the client that gives a unit of the semaphore in an entry, or that takes one
abbrev pub unit_client : Bool → ℕ → Entry → Option ℕ
unit_client gives semaphore (Give k client) = cond (gives && (k == semaphore)) (Some client) None
unit_client gives semaphore (Take k client) = cond gives None (cond (k == semaphore) (Some client) None)
unit_client gives semaphore (Meet barrier members) = None
unit_client gives semaphore Swap = None

-- where the name of a client's next operation stands, by how many operations each client has used
abbrev pub next_spot : SyncLists → List Name → List ℕ → Option ℕ → Option ℕ
next_spot syncs order used None = None
next_spot syncs order used (Some client) = option_map (λ (w : WaitAt). first_at order client w.place) (slice_get (ops_of syncs client) (slice_index used client))

-- how many entries take a unit of the semaphore
abbrev pub takes_in : ℕ → List Entry → ℕ
takes_in semaphore [] = 0
takes_in semaphore (Take k client ∷ es) = cond (k == semaphore) 1 0 + takes_in semaphore es
takes_in semaphore (Meet barrier members ∷ es) = takes_in semaphore es
takes_in semaphore (Swap ∷ es) = takes_in semaphore es
takes_in semaphore (Give k client ∷ es) = takes_in semaphore es

-- none of a client's names from its next operation on stands before the client's spot
abbrev pub AreNotBehind : SyncLists → List Name → List ℕ → List ℕ → Type 0
AreNotBehind syncs order used spots =
    (client : ℕ) → client < 8 → slice_index spots client ≤ first_at order client (place_or_end syncs client (slice_index used client))

-- A walk has read so many entries: `used` are each client's used operations, and no name from its next operation on stands before the client's spot.
pub record IsWalk (syncs : SyncLists) (journal : List Entry) (order : List Name) (read : ℕ) (used spots : List ℕ) : Type 0 where
  pub within : read ≤ length journal
  pub clients : length used ≡ 8
  pub operations : AreUsed syncs (take read journal) used
  pub passed : AreNotBehind syncs order used spots

-- the same of a walk
abbrev pub IsWalkOf : SyncLists → List Entry → List Name → Walk → Type 0
IsWalkOf syncs journal order walk = IsWalk syncs journal order walk.read walk.used walk.spots

-- a walk can go along journals of these lists: they are well formed, and of at most eight clients
pub record CanBeWalked (syncs : SyncLists) : Type 0 where
  pub clients : client_count syncs ≤ 8
  pub lists : IsWellFormed syncs

-- a walk goes along such lists
pub record WalksAlong (syncs : SyncLists) (journal : List Entry) (order : List Name) (walk : Walk) : Type 0 where
  pub lists : CanBeWalked syncs
  pub reads : IsWalkOf syncs journal order walk

-- each unit of the semaphore beyond the first ones is given before it is taken
abbrev pub hands_over : SyncLists → List Entry → List Name → ℕ → Bool
hands_over syncs journal order semaphore =
    are_in_turn (unit_spots syncs journal order true semaphore 0) (drop (units_of syncs semaphore) (unit_spots syncs journal order false semaphore 0))

-- the walk went on to the next spot of such a name, and beyond it: that was the first one left
abbrev pub Finds : SyncLists → List Entry → List Name → Bool → ℕ → Walk → Option ℕ → Walk → Type 0
Finds syncs journal order gives semaphore before found after =
    unit_spots syncs journal order gives semaphore before.read ≡ option_to_list found ++ unit_spots syncs journal order gives semaphore after.read

-- and it still is a walk along the journal
pub record WalksOnTo (syncs : SyncLists) (journal : List Entry) (order : List Name) (gives : Bool) (semaphore : ℕ) (before : Walk) (found : Option ℕ) (after : Walk) : Type 0 where
  pub walk : IsWalkOf syncs journal order after
  pub spot : Finds syncs journal order gives semaphore before found after

-- the walk has passed the next names that take, so many of them
abbrev pub Passes : SyncLists → List Entry → List Name → ℕ → ℕ → Walk → Walk → Type 0
Passes syncs journal order semaphore units before after =
    unit_spots syncs journal order false semaphore after.read ≡ drop units (unit_spots syncs journal order false semaphore before.read)

-- Vector clocks (Mattern, Fidge): for each name how many names of each client are before it.
use Rattle.std.specs.Prelude.{◌≡◌, ℕ, suc, ◌+◌, ◌<◌, ◌≤◌, ◌==◌, nat_le, max, cond, List, Option, Some, None, slice_get, ◌↔◌}
use Rattle.std.specs.Option.{option_map_or}
use Rattle.rc_base.specs.Lists.{IsIn}
use Rattle.rc_base.specs.Orders.Journal.{reach_of}
use Rattle.rc_base.specs.Orders.Order.{PlacedEntry, givers, takers}
use Rattle.rc_base.specs.Orders.Sync.{units_of}
use Rattle.rc_base.specs.declared.sync.Entry.{Entry}
use Rattle.rc_base.specs.declared.sync.Name.{Name}
use Rattle.rc_base.specs.declared.sync.SyncLists.{SyncLists}
use Rattle.happens_before.specs.Before.{IsBefore}

-- The names of a client that are before a name are those below a place, since what is before a name has all earlier names of its client before it.
-- A clock is exact where it tells that place, of each name that is carried out and each client.
pub record IsExact (syncs : SyncLists) (journal : List Entry) (clock : Name → ℕ → ℕ) : Type 0 where
  pub exact : (a n : Name) → n.place < reach_of syncs journal n.client → IsBefore syncs journal a n ↔ (a.place < clock n a.client)

-- ---- while a journal is read

-- one clock is at most another
abbrev pub AtMost : (ℕ → ℕ) → (ℕ → ℕ) → Type 0
AtMost u v = (d : ℕ) → u d ≤ v d

-- the names up to a place of a client
abbrev pub counts_to : Name → ℕ → ℕ
counts_to s d = cond (d == s.client) (s.place + 1) 0

-- a name's clock with the name itself
abbrev pub up_to : (Name → ℕ → ℕ) → Name → ℕ → ℕ
up_to clock s d = max (clock s d) (counts_to s d)

-- from these places on, the names of the clients have these before them too
abbrev pub raised : (Name → ℕ → ℕ) → (ℕ → Option ℕ) → (ℕ → ℕ) → Name → ℕ → ℕ
raised clock from v n d = option_map_or (λ p. cond (nat_le p n.place) (max (clock n d) (v d)) (clock n d)) (from n.client) (clock n d)

-- one client, from one place on
abbrev pub only : ℕ → ℕ → ℕ → Option ℕ
only c j d = cond (d == c) (Some j) None

-- what the clocks of a journal's first entries are, for the whole journal
pub record AreClocks (syncs : SyncLists) (journal : List Entry) (ms : List PlacedEntry) (clock : Name → ℕ → ℕ) : Type 0 where
  -- nothing is counted that isn't before
  pub sound : (a n : Name) → n.place < reach_of syncs journal n.client → a.place < clock n a.client → IsBefore syncs journal a n
  -- the earlier names of the client are counted
  pub own : (n : Name) → n.place ≤ clock n n.client
  -- and what is before an earlier one
  pub rising : (c i j : ℕ) → i ≤ j → AtMost (clock record { client = c; place = i }) (clock record { client = c; place = j })
  -- givers, and what is before them
  pub handed : (semaphore k : ℕ) (g t : Name) → slice_get (givers semaphore ms) k ≡ Some g → slice_get (takers semaphore ms) (units_of syncs semaphore + k) ≡ Some t
      → AtMost (up_to clock g) (clock t)
  -- the names before operations
  pub parted : (m : PlacedEntry) → IsIn m ms → (c i d j : ℕ) → m.at c ≡ Some (suc i) → m.at d ≡ Some j
      → AtMost (up_to clock record { client = c; place = i }) (clock record { client = d; place = j + 1 })

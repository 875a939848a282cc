-- How clocks are kept: for each client the places from which on its names have more before them.
use Rattle.std.specs.Prelude.{◌≡◌, ◌≢◌, ℕ, suc, ◌+◌, ◌-◌, ◌^◌, ◌<◌, ◌≤◌, ◌==◌, nat_le, nat_lt, max, cond, List, [], ◌∷◌, take, length, replicate, slice_get, slice_index, slice_index_or, Option, Some, None, option_map}
use Rattle.rc_base.specs.Orders.Journal.{reach_of}
use Rattle.rc_base.specs.Orders.Order.{PlacedEntry, entries_of, givers, takers}
use Rattle.rc_base.specs.Orders.Sync.{units_of}
use Rattle.rc_base.specs.declared.sync.Entry.{Entry}
use Rattle.rc_base.specs.declared.sync.Entry.TheVariants.{Meet, Swap, Give, Take}
use Rattle.rc_base.specs.declared.sync.Name.{Name}
use Rattle.rc_base.specs.declared.sync.SyncLists.{SyncLists}
use Rattle.order_model.specs.Checked.{place_by}
use Rattle.order_model.specs.Counted.{AreUsed}
use Rattle.happens_before.specs.Clocks.{AtMost, up_to, raised, AreClocks}
use Rattle.happens_before.specs.declared.timelines.Change.{Change}
use Rattle.happens_before.specs.declared.timelines.Timelines.{Timelines}
use Rattle.happens_before.specs.declared.semaphores.Semaphore.{Semaphore}

-- what is before a place: as the last change says that isn't behind it, else as was said first
abbrev pub before_from : List ℕ → List Change → ℕ → List ℕ
before_from first [] place = first
before_from first (x ∷ xs) place = cond (nat_le x.from place) (before_from x.before xs place) (before_from first xs place)

-- how many names of each client are before the client's name at a place, without the client's own
abbrev pub before_at : List Change → ℕ → List ℕ
before_at xs place = before_from (replicate 8 0) xs place

-- with the client's own
abbrev pub clock_of : List (List Change) → Name → ℕ → ℕ
clock_of lists n d = max (slice_index (before_at (slice_index_or lists n.client []) n.place) d) (cond (d == n.client) n.place 0)

-- the places of changes don't fall, from one on and up to another
abbrev pub AreChanges : ℕ → List Change → ℕ → Type 0
AreChanges low [] high = low ≤ high
AreChanges low (x ∷ xs) high = (low ≤ x.from) × AreChanges x.from xs high

-- each of eight clients has its changes
pub record AreTimelines (lists : List (List Change)) (ends : ℕ → ℕ) : Type 0 where
  pub clients : length lists ≡ 8
  pub changes : (c : ℕ) → c < 8 → AreChanges 0 (slice_index_or lists c []) (ends c)

-- the places of each client's changes don't fall
pub record AreOrdered (lists : List (List Change)) : Type 0 where
  pub clients : length lists ≡ 8
  pub changes : (c : ℕ) → c < 8 → (end : ℕ) × AreChanges 0 (slice_index_or lists c []) end

-- each number is the greater one of its own and the other list's
abbrev pub IsJoined : List ℕ → (ℕ → ℕ) → List ℕ → Type 0
IsJoined before other after = (client : ℕ) → slice_index after client ≡ max (slice_index before client) (other client)

-- the client's places of changes don't fall, up to this one
abbrev pub ChangesGoTo : Timelines → ℕ → ℕ → Type 0
ChangesGoTo t client end = AreChanges 0 (slice_index_or t.clients.items client []) end

-- a client has the changes that it had
abbrev pub KeepsChanges : Timelines → Timelines → ℕ → Type 0
KeepsChanges before after client = slice_index_or after.clients.items client [] ≡ slice_index_or before.clients.items client []

-- from these places on, the names of the clients have these before them too
abbrev pub IsRaised : Timelines → (ℕ → Option ℕ) → List ℕ → Timelines → Name → ℕ → Type 0
IsRaised before from gate after n d = clock_of after.clients.items n d ≡ raised (clock_of before.clients.items) from (slice_index gate) n d

-- ---- while a journal is read

-- what entries leave of a semaphore: its first units that aren't taken, who gave units, and whose unit is taken next
pub record IsLeft (syncs : SyncLists) (ms : List PlacedEntry) (name : ℕ) (s : Semaphore) : Type 0 where
  pub left : s.left ≡ units_of syncs name - length (takers name ms)
  pub given : s.givers ≡ givers name ms
  pub next : s.next ≡ length (takers name ms) - units_of syncs name
  pub small : (k : ℕ) (g : Name) → slice_get s.givers k ≡ Some g → (g.client < 8) × (g.place + 1 < 2 ^ 32)

abbrev pub no_semaphore : Semaphore
no_semaphore = record { left = 0; givers = []; next = 0 }

-- which unit is taken after that
abbrev pub next_after : Semaphore → ℕ
next_after s = cond (nat_lt 0 s.left) s.next (cond (nat_lt s.next (length s.givers)) (s.next + 1) s.next)

-- the semaphores and the clocks behind the entries js of a journal
pub record IsKept (syncs : SyncLists) (journal js : List Entry) (semaphores : List Semaphore) (lists : List (List Change)) : Type 0 where
  pub names : length semaphores ≡ 256
  pub units : (name : ℕ) → name < 256 → IsLeft syncs (entries_of syncs js) name (slice_index_or semaphores name no_semaphore)
  pub timelines : AreTimelines lists (reach_of syncs js)
  pub clocks : AreClocks syncs journal (entries_of syncs js) (clock_of lists)

-- and how many operations each client has used
pub record IsRead (syncs : SyncLists) (journal : List Entry) (read : ℕ) (used : List ℕ) (semaphores : List Semaphore) (lists : List (List Change)) : Type 0 where
  pub within : read ≤ length journal
  pub slots : length used ≡ 8
  pub operations : AreUsed syncs (take read journal) used
  pub kept : IsKept syncs journal (take read journal) semaphores lists

-- ---- an entry that parts its members' names

-- an entry of one client
abbrev pub IsUnitEntry : Entry → Type 0
IsUnitEntry (Meet barrier members) = ⊥
IsUnitEntry Swap = ⊥
IsUnitEntry (Give semaphore client) = Unit {0}
IsUnitEntry (Take semaphore client) = Unit {0}

-- from behind its operations on
abbrev pub behind : (ℕ → Option ℕ) → ℕ → Option ℕ
behind at d = option_map (λ j. j + 1) (at d)

-- what is counted up to the names before the members' operations, and no more
pub record IsGate (clock : Name → ℕ → ℕ) (at : ℕ → Option ℕ) (gate : ℕ → ℕ) : Type 0 where
  pub counts : (c i : ℕ) → at c ≡ Some (suc i) → AtMost (up_to clock record { client = c; place = i }) gate
  pub counted : (d p : ℕ) → p < gate d → (c : ℕ) × (i : ℕ) × (at c ≡ Some (suc i)) × (p < up_to clock record { client = c; place = i } d)

-- the places of members' operations, of eight clients
abbrev pub places_in : List (Option ℕ) → ℕ → Option ℕ
places_in at c = slice_index_or at c None

-- ---- the members of an entry, of eight clients

-- Orders of the commands of all clients: which ones a journal permits, the default one, and when a scene is ordered.
use Rattle.std.specs.Prelude.{◌≡◌, ◌≢◌, ℕ, zero, suc, ◌+◌, ◌-◌, ◌<◌, ◌==◌, Bool, true, cond, List, [], ◌∷◌, ◌++◌, ◌⊎◌, ◌↔◌, drop, Option, Some, None, option_map}
use Rattle.std.specs.List.{zip}
use Rattle.rc_base.specs.Lists.{IsIn, Stands, NoRepeat}
use Rattle.rc_base.specs.Orders.Sync.{client_count, ops_of, units_of}
use Rattle.rc_base.specs.Orders.Journal.{SyncState, start, head_wait, stop, is_member, after, reach_of}
use Rattle.rc_base.specs.Orders.Grant.{granted_from, operations_left}
use Rattle.rc_base.specs.declared.sync.Entry.{Entry}
use Rattle.rc_base.specs.declared.sync.Entry.TheVariants.{Meet, Swap, Give, Take}
use Rattle.rc_base.specs.declared.sync.Name.{Name}
use Rattle.rc_base.specs.declared.sync.SyncLists.{SyncLists}
use Rattle.rc_base.specs.declared.sync.WaitAt.{WaitAt}

-- ---- entries with the places of their operations

-- an entry of a journal, with the place of each member's operation in it
pub record PlacedEntry : Type 0 where
  pub entry : Entry
  pub at : ℕ → Option ℕ

abbrev pub entry_at : SyncLists → SyncState → Entry → PlacedEntry
entry_at syncs s e = record { entry = e; at = λ client. cond (is_member (client_count syncs) e client) (option_map (λ (w : WaitAt). w.place) (head_wait (s.rest client))) None }

abbrev pub entries_from : SyncLists → SyncState → List Entry → List PlacedEntry
entries_from syncs s [] = []
entries_from syncs s (e ∷ es) = entry_at syncs s e ∷ entries_from syncs (after syncs s e) es

abbrev pub entries_of : SyncLists → List Entry → List PlacedEntry
entries_of syncs journal = entries_from syncs (start syncs) journal

-- ---- who gave a unit, and who took it

abbrev pub name_at : ℕ → Option ℕ → List Name
name_at client None = []
name_at client (Some place) = record { client = client; place = place } ∷ []

-- the name that gives a unit of the semaphore in an entry, or takes one
abbrev pub giver_in : ℕ → Entry → (ℕ → Option ℕ) → List Name
giver_in semaphore (Give k client) at = cond (k == semaphore) (name_at client (at client)) []
giver_in semaphore (Meet barrier members) at = []
giver_in semaphore Swap at = []
giver_in semaphore (Take k client) at = []

abbrev pub taker_in : ℕ → Entry → (ℕ → Option ℕ) → List Name
taker_in semaphore (Take k client) at = cond (k == semaphore) (name_at client (at client)) []
taker_in semaphore (Meet barrier members) at = []
taker_in semaphore Swap at = []
taker_in semaphore (Give k client) at = []

-- all of a journal's, in its order
abbrev pub givers : ℕ → List PlacedEntry → List Name
givers semaphore [] = []
givers semaphore (m ∷ ms) = giver_in semaphore m.entry m.at ++ givers semaphore ms

abbrev pub takers : ℕ → List PlacedEntry → List Name
takers semaphore [] = []
takers semaphore (m ∷ ms) = taker_in semaphore m.entry m.at ++ takers semaphore ms

-- givers and their takers: the semaphore's first units serve its first takers, and each later taker has the unit of its giver
abbrev pub handovers : ℕ → SyncLists → List Entry → List (Name × Name)
handovers semaphore syncs journal = zip (givers semaphore (entries_of syncs journal)) (drop (units_of syncs semaphore) (takers semaphore (entries_of syncs journal)))

-- ---- permitted orders

-- a comes before b: as an earlier name of one client, as the giver of a unit that b takes, or since an entry parts them, where a is before its
-- client's operation in it and b after its client's. For Meet and Swap this is over all members, for Give and Take it says no more than the first.
pub data Precedes (syncs : SyncLists) (journal : List Entry) (a b : Name) : Type 0 where
  SameClient : a.client ≡ b.client → a.place < b.place → Precedes syncs journal a b
  HandedOver : (semaphore : ℕ) → IsIn (a, b) (handovers semaphore syncs journal) → Precedes syncs journal a b
  Parted : (m : PlacedEntry) (i j : ℕ) → IsIn m (entries_of syncs journal) → m.at a.client ≡ Some i → m.at b.client ≡ Some j → a.place < i → j < b.place
      → Precedes syncs journal a b

-- the names below each client's reach, each once and no other, so that what precedes a name stands before it
pub record IsPermitted (syncs : SyncLists) (journal : List Entry) (order : List Name) : Type 0 where
  pub names : (n : Name) → IsIn n order ↔ (n.place < reach_of syncs journal n.client)
  pub once : NoRepeat order
  pub sequence : (a b : Name) → IsIn a order → IsIn b order → Precedes syncs journal a b → Stands a b order

-- ---- orders that are put together

-- n names of a client, from a place on
abbrev pub names_from : ℕ → ℕ → ℕ → List Name
names_from client place zero = []
names_from client place (suc n) = record { client = client; place = place } ∷ names_from client (place + 1) n

-- how many names of a client the order has
abbrev pub names_in : ℕ → List Name → ℕ
names_in client [] = 0
names_in client (n ∷ ns) = cond (client == n.client) 1 0 + names_in client ns

-- the client's names below a place that the order doesn't have yet come next
abbrev pub added : ℕ → ℕ → List Name → List Name
added client place order = order ++ names_from client (names_in client order) (place - names_in client order)

-- of the first n clients, rising, those that are meant add their names below their places
abbrev pub all_added : (ℕ → Bool) → (ℕ → ℕ) → ℕ → List Name → List Name
all_added meant places zero order = order
all_added meant places (suc n) order = cond (meant n) (added n (places n) (all_added meant places n order)) (all_added meant places n order)

-- members, rising, add their names up to their operation, that included
abbrev pub performed : SyncLists → SyncState → Entry → List Name → List Name
performed syncs s e order = all_added (is_member (client_count syncs) e) (λ c. stop syncs s c + 1) (client_count syncs) order

-- ---- the default journal and order

-- from the empty journal, the first lawful entry is added until none is lawful
abbrev pub default_journal : SyncLists → List Entry
default_journal syncs = granted_from syncs (operations_left (ops_of syncs) (client_count syncs)) (start syncs)

-- for each entry the members' operations, and after them each member's names below its next operation
abbrev pub default_from : SyncLists → SyncState → List Entry → List Name → List Name
default_from syncs s [] order = order
default_from syncs s (e ∷ es) order =
    default_from syncs (after syncs s e) es (all_added (is_member (client_count syncs) e) (stop syncs (after syncs s e)) (client_count syncs) (performed syncs s e order))

-- first each client's names below its first operation
abbrev pub default_order : SyncLists → List Entry → List Name
default_order syncs journal =
    default_from syncs (start syncs) journal (all_added (λ c. true) (stop syncs (start syncs)) (client_count syncs) [])

-- ---- conflict

-- what commands use beyond their own context: the pixels that they may change, the shared textures that they read, and those that they change
pub record Footprint (P : Type 0) : Type 0 where
  pub touches : Name → P → Bool
  pub samples : Name → ℕ → Bool
  pub writes : Name → ℕ → Bool

abbrev pub Uses : {P : Type 0} → Footprint P → Name → ℕ → Type 0
Uses f n texture = (f.writes n texture ≡ true) ⊎ (f.samples n texture ≡ true)

-- a common pixel, or a shared texture that one writes and the other writes or samples
pub data Overlaps {P : Type 0} (f : Footprint P) (a b : Name) : Type 0 where
  CommonPixel : (p : P) → f.touches a p ≡ true → f.touches b p ≡ true → Overlaps f a b
  FirstWrites : (texture : ℕ) → f.writes a texture ≡ true → Uses f b texture → Overlaps f a b
  SecondWrites : (texture : ℕ) → f.writes b texture ≡ true → Uses f a texture → Overlaps f a b

-- two names of different clients, both carried out
pub record Conflicts {P : Type 0} (syncs : SyncLists) (journal : List Entry) (f : Footprint P) (a b : Name) : Type 0 where
  pub clients : a.client ≢ b.client
  pub first : a.place < reach_of syncs journal a.client
  pub second : b.place < reach_of syncs journal b.client
  pub common : Overlaps f a b

-- every two conflicting names stand in the same sequence in all orders that the journal permits
abbrev pub IsOrdered : {P : Type 0} → SyncLists → List Entry → Footprint P → Type 0
IsOrdered syncs journal f =
    (a b : Name) → Conflicts syncs journal f a b
    → (o o' : List Name) → IsPermitted syncs journal o → IsPermitted syncs journal o' → Stands a b o → Stands a b o'

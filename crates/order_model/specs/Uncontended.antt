-- Scenes in which no two clients contend for a unit or for a place at a barrier.
use Rattle.std.specs.Prelude.{◌≡◌, ℕ, ◌≤◌, Bool, map, Some}
use Rattle.std.specs.List.{list_any}
use Rattle.rc_base.specs.Lists.{IsIn}
use Rattle.rc_base.specs.Orders.Grant.{is_at_barrier}
use Rattle.rc_base.specs.Orders.Journal.{how_many}
use Rattle.rc_base.specs.Orders.Sync.{client_count, ops_of, count_of}
use Rattle.rc_base.specs.declared.sync.SyncLists.{SyncLists}
use Rattle.rc_base.specs.declared.sync.SyncOp.{SyncOp}
use Rattle.rc_base.specs.declared.sync.SyncOp.TheVariants.{SemP, SemV}
use Rattle.rc_base.specs.declared.sync.WaitAt.{WaitAt}

-- the client's stream has the operation
abbrev pub Issues : SyncLists → ℕ → SyncOp → Type 0
Issues syncs client op = IsIn op (map (λ (w : WaitAt). w.op) (ops_of syncs client))

-- the client takes units of the semaphore
abbrev pub Takes : SyncLists → ℕ → ℕ → Type 0
Takes syncs semaphore client = Issues syncs client (SemP semaphore)

-- it gives units of the semaphore
abbrev pub Gives : SyncLists → ℕ → ℕ → Type 0
Gives syncs semaphore client = Issues syncs client (SemV semaphore)

-- it waits at the barrier, once or more
abbrev pub names_barrier : SyncLists → ℕ → ℕ → Bool
names_barrier syncs barrier client = list_any (λ (w : WaitAt). is_at_barrier barrier (Some w.op)) (ops_of syncs client)

-- how many clients do
abbrev pub clients_naming : SyncLists → ℕ → ℕ
clients_naming syncs barrier = how_many (names_barrier syncs barrier) (client_count syncs)

-- One client takes from each semaphore, and no barrier is named by more clients than it counts.
pub record TakesAlone (syncs : SyncLists) : Type 0 where
  pub takers : (semaphore c d : ℕ) → Takes syncs semaphore c → Takes syncs semaphore d → c ≡ d
  pub meets : (barrier count : ℕ) → count_of syncs barrier ≡ Some count → clients_naming syncs barrier ≤ count

-- Besides, one client gives to each semaphore that is taken from.
pub record IsUncontended (syncs : SyncLists) : Type 0 where
  pub alone : TakesAlone syncs
  pub givers : (semaphore c d e : ℕ) → Takes syncs semaphore e → Gives syncs semaphore c → Gives syncs semaphore d → c ≡ d

-- Scenes in which no client waits for a unit, and at each barrier all clients meet.
use Rattle.std.specs.Prelude.{◌≡◌, ℕ, Some}
use Rattle.std.specs.List.{AllByRecursion}
use Rattle.rc_base.specs.Orders.Sync.{client_count, ops_of, count_of}
use Rattle.rc_base.specs.declared.sync.SyncLists.{SyncLists}
use Rattle.rc_base.specs.declared.sync.SyncOp.{SyncOp}
use Rattle.rc_base.specs.declared.sync.SyncOp.TheVariants.{Barrier, SemP, SemV, Swap}

-- a barrier counts all clients, and nothing takes a unit
abbrev pub IsFullOp : SyncLists → SyncOp → Type 0
IsFullOp syncs (Barrier barrier) = count_of syncs barrier ≡ Some (client_count syncs)
IsFullOp syncs (SemP semaphore) = ⊥
IsFullOp syncs (SemV semaphore) = Unit {0}
IsFullOp syncs Swap = Unit {0}

-- of all operations of a scene
abbrev pub IsFull : SyncLists → Type 0
IsFull syncs = (client : ℕ) → AllByRecursion (λ w. IsFullOp syncs w.op) (ops_of syncs client)

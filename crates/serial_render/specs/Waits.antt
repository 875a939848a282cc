-- Clients that a journal leaves waiting.
use Rattle.std.specs.Prelude.{◌≡◌, ℕ, ◌↔◌, true, List, Option, IfSome, IsSome}
use Rattle.rc_base.specs.Orders.Journal.{waiting_of}
use Rattle.rc_base.specs.declared.sync.Entry.{Entry}
use Rattle.rc_base.specs.declared.sync.SyncLists.{SyncLists}
use Rattle.rc_base.specs.declared.sync.Waiting.{Waiting}
use Rattle.sync_manager.specs.Stored.{wait_at}
use Rattle.order_model.specs.Report.{is_stuck}

-- it is given exactly where the journal leaves a client waiting
abbrev pub TellsStuck : SyncLists → List Entry → Option Waiting → Type 0
TellsStuck syncs journal waiting = IsSome waiting ↔ (is_stuck syncs journal ≡ true)

-- where it is given, it tells of each client the operation that the client is left waiting at, if there is one
abbrev pub HasWaits : SyncLists → List Entry → Option Waiting → Type 0
HasWaits syncs journal waiting = IfSome waiting (λ w. (client : ℕ) → wait_at w.at client ≡ waiting_of syncs journal client)

-- What a walk along a journal has read, and what it keeps.
use Rattle.std.specs.Prelude.{◌≡◌, ℕ, ◌+◌, ◌≤◌, List, take, Some, slice_get}
use Rattle.rc_base.specs.Orders.Journal.{IsLegal}
use Rattle.rc_base.specs.Orders.Sync.{IsWellFormed, client_count}
use Rattle.rc_base.specs.declared.sync.Entry.{Entry}
use Rattle.rc_base.specs.declared.sync.SyncLists.{SyncLists}
use Rattle.happens_before.specs.Timelines.{IsKept, IsRead}
use Rattle.happens_before.specs.declared.walk.Walk.{Walk}

-- it stands behind the entries that it has read
abbrev pub HasRead : SyncLists → List Entry → Walk → Type 0
HasRead syncs journal w = IsRead syncs journal w.read w.used w.semaphores.items w.timelines.clients.items

-- it keeps what so many entries leave
abbrev pub Keeps : SyncLists → List Entry → ℕ → Walk → Type 0
Keeps syncs journal count w = IsKept syncs journal (take count journal) w.semaphores.items w.timelines.clients.items

-- it has read what it had read, and the clients have used as many operations
abbrev pub IsAsFar : Walk → Walk → Type 0
IsAsFar before after = (after.read ≡ before.read) × (after.used ≡ before.used)

-- it goes along a legal journal of well formed lists of at most eight clients
pub record IsAlong (syncs : SyncLists) (journal : List Entry) (w : Walk) : Type 0 where
  pub lists : IsWellFormed syncs
  pub clients : client_count syncs ≤ 8
  pub legal : IsLegal syncs journal
  pub read : HasRead syncs journal w

-- and this entry is the next one
pub record IsNext (syncs : SyncLists) (journal : List Entry) (entry : Entry) (w : Walk) : Type 0 where
  pub along : IsAlong syncs journal w
  pub here : slice_get journal w.read ≡ Some entry

-- it keeps what the next entry leaves too, and hasn't counted it as read
pub record KeepsNext (syncs : SyncLists) (journal : List Entry) (before after : Walk) : Type 0 where
  pub far : IsAsFar before after
  pub kept : Keeps syncs journal (before.read + 1) after

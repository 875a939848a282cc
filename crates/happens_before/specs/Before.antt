-- Which names are before others, whatever order is taken (happens-before): what precedes, step after step.
use Rattle.std.specs.Prelude.{◌<◌, List, ◌⊎◌}
use Rattle.rc_base.specs.Orders.Journal.{reach_of}
use Rattle.rc_base.specs.Orders.Order.{Precedes, Footprint, Conflicts}
use Rattle.rc_base.specs.declared.sync.Entry.{Entry}
use Rattle.rc_base.specs.declared.sync.Name.{Name}
use Rattle.rc_base.specs.declared.sync.SyncLists.{SyncLists}

-- Happens-before: the least transitive relation on the names that are carried out in which each name is before those that it precedes. A meeting, or a
-- Swap, parts the members' names strictly before their operations from their names strictly behind them. An operation's own name is on neither
-- side of its own meeting: it is no full barrier, and nothing passes through an operation that directly follows another one.
pub data IsBefore (syncs : SyncLists) (journal : List Entry) : Name → Name → Type 0 where
  Next : (a b : Name) → a.place < reach_of syncs journal a.client → b.place < reach_of syncs journal b.client → Precedes syncs journal a b
      → IsBefore syncs journal a b
  Then : (a c b : Name) → IsBefore syncs journal a c → IsBefore syncs journal c b → IsBefore syncs journal a b

-- of every two conflicting names one is before the other
abbrev pub AreConflictsOrdered : {P : Type 0} → SyncLists → List Entry → Footprint P → Type 0
AreConflictsOrdered syncs journal f = (a b : Name) → Conflicts syncs journal f a b → IsBefore syncs journal a b ⊎ IsBefore syncs journal b a

-- Laws of what is before what.
use Rattle.std.specs.Prelude.{◌≢◌, ◌<◌, List, ◌↔◌}
use Rattle.rc_base.specs.Lists.{IsIn, NoRepeat, Stands}
use Rattle.rc_base.specs.Orders.Footprints.{footprint_of, IsOrderedScene}
use Rattle.rc_base.specs.Orders.Journal.{IsLegal, reach_of}
use Rattle.rc_base.specs.Orders.Order.{IsPermitted}
use Rattle.rc_base.specs.Orders.Sync.{IsWellFormed, sync_lists_of}
use Rattle.rc_base.specs.declared.scene.Scene.{Scene}
use Rattle.rc_base.specs.declared.sync.Entry.{Entry}
use Rattle.rc_base.specs.declared.sync.Name.{Name}
use Rattle.rc_base.specs.declared.sync.SyncLists.{SyncLists}
use Rattle.happens_before.specs.Before.{IsBefore, AreConflictsOrdered}

-- in every permitted order a name that is before another stands before it
abbrev pub BeforeStandsBefore : Type 0
BeforeStandsBefore =
    (syncs : SyncLists) (journal : List Entry) (order : List Name) → IsPermitted syncs journal order → (a b : Name) → IsBefore syncs journal a b → Stands a b order

-- where of every two conflicting names of a scene one is before the other, the scene is ordered
abbrev pub ScenesOfOrderedConflictsAreOrdered : Type 0
ScenesOfOrderedConflictsAreOrdered = (scene : Scene) (journal : List Entry) → AreConflictsOrdered (sync_lists_of scene) journal (footprint_of scene) → IsOrderedScene scene journal

-- ---- permitted orders are the linear extensions of what is before what

-- all names that are carried out, each once and no other, so that what is before a name stands before it
pub record IsLinearExtension (syncs : SyncLists) (journal : List Entry) (order : List Name) : Type 0 where
  pub names : (n : Name) → IsIn n order ↔ (n.place < reach_of syncs journal n.client)
  pub once : NoRepeat order
  pub sequence : (a b : Name) → IsBefore syncs journal a b → Stands a b order

abbrev pub PermittedOrdersAreLinearExtensions : Type 0
PermittedOrdersAreLinearExtensions = (syncs : SyncLists) (journal : List Entry) (order : List Name) → IsPermitted syncs journal order ↔ IsLinearExtension syncs journal order

-- some permitted order has the first name in front of the second
abbrev pub MayStandFirst : SyncLists → List Entry → Name → Name → Type 0
MayStandFirst syncs journal a b = (order : List Name) × IsPermitted syncs journal order × Stands a b order

-- A race is real: of two names that are carried out, neither of which is before the other, each stands first in some permitted order.
abbrev pub RacesAreReal : Type 0
RacesAreReal =
    (syncs : SyncLists) (journal : List Entry) (order : List Name) → IsPermitted syncs journal order
    → (a b : Name) → IsIn a order → IsIn b order → a ≢ b → (IsBefore syncs journal a b → ⊥) → (IsBefore syncs journal b a → ⊥)
    → MayStandFirst syncs journal a b × MayStandFirst syncs journal b a

-- where an order is permitted, a name is before another one exactly where it stands before it in every permitted order
abbrev pub BeforeIsFirstInEachOrder : Type 0
BeforeIsFirstInEachOrder =
    (syncs : SyncLists) (journal : List Entry) (order : List Name) → IsPermitted syncs journal order
    → (a b : Name) → IsBefore syncs journal a b ↔ ((other : List Name) → IsPermitted syncs journal other → Stands a b other)

-- where a scene is ordered, of every two conflicting names one is before the other
abbrev pub OrderedScenesHaveOrderedConflicts : Type 0
OrderedScenesHaveOrderedConflicts =
    (scene : Scene) (journal : List Entry) → IsWellFormed (sync_lists_of scene) → IsLegal (sync_lists_of scene) journal → IsOrderedScene scene journal
    → AreConflictsOrdered (sync_lists_of scene) journal (footprint_of scene)

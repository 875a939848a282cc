-- Laws of races and verdicts.
use Rattle.std.specs.Prelude.{◌≡◌, ℕ, List}
use Rattle.rc_base.specs.Lists.{Stands}
use Rattle.rc_base.specs.Orders.Order.{Footprint, IsPermitted}
use Rattle.rc_base.specs.declared.sync.Entry.{Entry}
use Rattle.rc_base.specs.declared.sync.Name.{Name}
use Rattle.rc_base.specs.declared.sync.SyncLists.{SyncLists}
use Rattle.happens_before.specs.Before.{IsBefore}
use Rattle.happens_before.specs.Laws.{MayStandFirst}
use Rattle.race_check.specs.Races.{ConflictsUnordered, IsFirstRace, IsVerdict}
use Rattle.race_check.specs.declared.verdict.Spot.{Spot}
use Rattle.race_check.specs.declared.verdict.Verdict.{Verdict}

-- of two conflicting names of a permitted order the later is never before the earlier: where the earlier isn't before the later, nothing orders them
abbrev pub LaterNamesAreNotBefore : Type 0
LaterNamesAreNotBefore =
    (syncs : SyncLists) (journal : List Entry) (f : Footprint (ℕ × ℕ)) (order : List Name) → IsPermitted syncs journal order
    → (a b : Name) → Stands a b order → ConflictsUnordered syncs journal f a b → IsBefore syncs journal b a → ⊥

-- there is one verdict on a permitted order
abbrev pub EachOrderHasOneVerdict : Type 0
EachOrderHasOneVerdict =
    (syncs : SyncLists) (journal : List Entry) (f : Footprint (ℕ × ℕ)) (order : List Name) → IsPermitted syncs journal order
    → (v w : Verdict) → IsVerdict syncs journal order f v → IsVerdict syncs journal order f w → v ≡ w

-- a race that is told of a permitted order is real: its two names stand either way round in permitted orders
abbrev pub ToldRacesAreReal : Type 0
ToldRacesAreReal =
    (syncs : SyncLists) (journal : List Entry) (f : Footprint (ℕ × ℕ)) (order : List Name) → IsPermitted syncs journal order
    → (first second : Name) (spot : Spot) → IsFirstRace syncs journal order f first second spot
    → MayStandFirst syncs journal first second × MayStandFirst syncs journal second first

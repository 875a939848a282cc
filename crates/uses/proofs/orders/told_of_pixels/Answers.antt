use Rattle.std.proofs.Common.{inl, inr, Result, Ok, Err}
use Rattle.std.specs.Prelude.{IfOk, ◌↔◌, List}
use Rattle.rc_base.specs.Orders.Order.Overlaps.{CommonPixel}
use Rattle.rc_base.specs.declared.out_of_memory.OutOfMemory.{OutOfMemory}
use Rattle.rc_base.specs.declared.scene.Scene.{Scene}
use Rattle.rc_base.specs.declared.sync.Entry.{Entry}
use Rattle.rc_base.specs.declared.sync.Name.{Name}
use Rattle.rc_base.specs.declared.sync.SyncLists.{SyncLists}
use Rattle.race_check.specs.Races.{NoRaces, SaysOrdered}
use Rattle.race_check.specs.declared.verdict.Verdict.{Verdict}
use Rattle.uses.specs.Orders.{RaceAtAPixel}
use Rattle.uses.proofs.orders.told_of_pixels.Goals as goal

races : (syncs : SyncLists) (journal : List Entry) (scene : Scene) (a b : Name) → RaceAtAPixel syncs journal scene a b → NoRaces syncs journal scene → ⊥
races syncs journal scene a b r none =
    elim (none a b (record { clients = r.clients; first = r.first; second = r.second; common = CommonPixel r.pixel r.touched r.touched_too })) [
      | inl before ↦ r.not_before before
      | inr behind ↦ r.not_behind behind
    ]

told : (r : Result Verdict OutOfMemory) (syncs : SyncLists) (journal : List Entry) (scene : Scene) (a b : Name)
    → IfOk r (λ v. SaysOrdered v ↔ NoRaces syncs journal scene) → RaceAtAPixel syncs journal scene a b → IfOk r (λ v. SaysOrdered v → ⊥)
told (Ok v) syncs journal scene a b exactly race = λ ordered. races syncs journal scene a b race (exactly.0 ordered)
told (Err e) syncs journal scene a b exactly race = tt

pub returns : goal.returns
returns c a b race = told c.check_races.result _ _ _ a b c.check_races.ensures.exactly race

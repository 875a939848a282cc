use Rattle.std.proofs.Common.{Result, Ok, Err}
use Rattle.std.specs.Prelude.{IfOk, ◌↔◌, List}
use Rattle.rc_base.specs.declared.out_of_memory.OutOfMemory.{OutOfMemory}
use Rattle.rc_base.specs.declared.scene.Scene.{Scene}
use Rattle.rc_base.specs.declared.sync.Entry.{Entry}
use Rattle.rc_base.specs.declared.sync.SyncLists.{SyncLists}
use Rattle.race_check.specs.Races.{NoRaces, SaysOrdered}
use Rattle.race_check.specs.declared.verdict.Verdict.{Verdict}
use Rattle.uses.specs.Orders.{NoneConflict}
use Rattle.uses.proofs.orders.told_of_readers.Goals as goal

ordered : (r : Result Verdict OutOfMemory) (syncs : SyncLists) (journal : List Entry) (scene : Scene)
    → IfOk r (λ v. SaysOrdered v ↔ NoRaces syncs journal scene) → NoneConflict syncs journal scene → IfOk r SaysOrdered
ordered (Ok v) syncs journal scene exactly none = exactly.1 (λ a b conflict. absurd (none a b conflict))
ordered (Err e) syncs journal scene exactly none = tt

pub returns : goal.returns
returns c none = ordered c.check_races.result _ _ _ c.check_races.ensures.exactly none

use Rattle.std.proofs.Common.{take}
use Rattle.rc_base.specs.Orders.Footprints.{footprint_of}
use Rattle.stream_replay.specs.Clients.{AreIssued}
use Rattle.race_check.specs.Uses.{AreSized, AreTables}
use Rattle.race_check.proofs.OrdersAreChecked.{IsPassed}
use Rattle.race_check.proofs.walk.first_race.Given as goal

abbrev pub invariant-loop-name : goal.invariant-loop-name
invariant-loop-name g l = record {
  clients : AreIssued (g.S.SceneStore.scene l.scene) (take l.name-index l.fn.order) l.clients.items;
  sized : AreSized (g.S.SceneStore.scene l.scene).decl.width (g.S.SceneStore.scene l.scene).decl.height l.marks;
  passed : IsPassed (AreTables (footprint_of (g.S.SceneStore.scene l.scene)) (g.S.SceneStore.scene l.scene).decl.width (g.S.SceneStore.scene l.scene).decl.height) l.syncs l.journal (footprint_of (g.S.SceneStore.scene l.scene)) (take l.name-index l.fn.order) l.marks;
}

use Rattle.std.proofs.Common.{ℕ, List, length, Result, Ok, Err, arith}
use Rattle.std.specs.Prelude.{IfOk}
use Rattle.std.proofs.lemmas.List.Sums.{get_or-le-sum_by}
use Rattle.rc_base.specs.declared.cluster.Tally.{Tally}
use Rattle.rc_base.specs.declared.out_of_memory.OutOfMemory.{OutOfMemory}
use Rattle.rc_base.specs.declared.scene.Decl.{Decl}
use Rattle.rc_base.specs.declared.scene.Scene.{Scene}
use Rattle.rc_base.specs.declared.window.Layout.{Layout}
use Rattle.client_issue.specs.Cores.{tally_of_tile}
use Rattle.client_issue.specs.declared.client.ClientCore.{ClientCore}
use Rattle.run_record.specs.Collected.{AreCollected}
use Rattle.run_record.specs.Gathering.{AreSums, HaveSent}
use Rattle.run_record.specs.declared.gather.Collected.{Collected}
use Rattle.sync_manager.specs.declared.manager.ManagerCore.{ManagerCore}
use Rattle.tile_server.specs.declared.tile_core.TileCore.{TileCore}
use Rattle.uses.specs.Cluster.{CountEach}
use Rattle.uses.proofs.cluster.collected.Goals as goal

count_each : (cores : List ClientCore) (tiles : ℕ) (sums : List Tally) (scene : Scene) (l : Layout) → AreSums cores tiles sums → HaveSent scene l cores → CountEach cores tiles sums
count_each cores tiles sums scene l are sent client tile d low high =
    let sum = are.each scene l sent tile high in
    let parcels : ClientCore → ℕ = λ core. (tally_of_tile core tile).parcels in
    omega (arith, sum.parcels, get_or-le-sum_by parcels cores client d low)

gives : (r : Result Collected OutOfMemory) (decl : Decl) (clients : List ClientCore) (core : ManagerCore) (tiles : List TileCore) (scene : Scene) (l : Layout)
    → IfOk r (λ x. AreCollected decl clients core tiles x.kept x.tallies x.waiting x.faults) → HaveSent scene l clients → IfOk r (λ x. CountEach clients (length tiles) x.tallies)
gives (Ok x) decl clients core tiles scene l are sent = count_each clients (length tiles) x.tallies scene l are.sums sent
gives (Err e) decl clients core tiles scene l are sent = tt

pub returns : goal.returns
returns c scene l sent = gives c.collect.result _ _ _ _ scene l c.collect.ensures sent

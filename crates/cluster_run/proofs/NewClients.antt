-- Clients' workers, one more at a time.
use Rattle.std.proofs.Common.{ℕ, List, [], ◌∷◌, ◌++◌, length, subst}
use Rattle.std.specs.Prelude.{Vec}
use Rattle.std.specs.Global.{Global}
use Rattle.rc_base.proofs.Paired.{none_paired, paired_more}
use Rattle.rc_base.specs.declared.scene.Scene.{Scene}
use Rattle.rc_base.specs.declared.state.Parcel.{Parcel}
use Rattle.rc_base.specs.declared.sync.Request.{Request}
use Rattle.rc_base.specs.declared.window.Layout.{Layout}
use Rattle.tile_queues.specs.declared.ends.LaneIn.{LaneIn}
use Rattle.tile_queues.specs.declared.ends.LaneOut.{LaneOut}
use Rattle.tile_queues.specs.Grids.{IsFresh}
use Rattle.cluster_run.specs.NewWorkers.{IsNewClient, AreNewClients}
use Rattle.cluster_run.specs.declared.workers.ClientWorker.{ClientWorker}

module _ {R : Type 0} (scene : Scene) (l : Layout) (depth : ℕ) where
  pub no_clients : AreNewClients {R = R} scene l depth [] [] []
  no_clients = record { workers_are = none_paired _; requests_are = none_paired _ }

  pub one_more_client : (rows : List (Vec (LaneIn Parcel R) Global)) (workers : List (ClientWorker R)) (requests : List (LaneOut Request R))
      (ends : Vec (LaneIn Parcel R) Global) (w : ClientWorker R) (b : LaneOut Request R) → AreNewClients scene l depth rows workers requests
      → IsNewClient scene l (length workers) ends w → IsFresh depth w.requests b
      → AreNewClients scene l depth (rows ++ ends ∷ []) (workers ++ w ∷ []) (requests ++ b ∷ [])
  one_more_client rows workers requests ends w b h new fresh = record {
    workers_are = paired_more (λ client ends w. IsNewClient scene l client ends w) rows workers ends w h.workers_are
        (subst (λ n. IsNewClient scene l n ends w) h.workers_are.count new);
    requests_are = paired_more (λ client w b. IsFresh depth w.requests b) workers requests w b h.requests_are fresh;
  }

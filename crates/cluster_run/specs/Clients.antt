-- What a client's worker keeps, of its core and its own ends of lanes alone.
use Rattle.std.specs.Prelude.{◌≡◌, ℕ, List, slice_index_or}
use Rattle.rc_base.specs.Cluster.Tiles.{tile_count}
use Rattle.rc_base.specs.declared.scene.Scene.{Scene}
use Rattle.rc_base.specs.declared.state.Parcel.{Parcel}
use Rattle.rc_base.specs.declared.window.Layout.{Layout}
use Rattle.client_issue.specs.Clauses.{IsClientClause}
use Rattle.tile_queues.specs.Ends.{sent_of, lane_in}
use Rattle.tile_queues.specs.declared.ends.LaneIn.{LaneIn}
use Rattle.tile_queues.specs.Names.{AreInto}
use Rattle.cluster_run.specs.declared.workers.ClientWorker.{ClientWorker}

module _ {R : Type 0} where
  -- Its lanes are those of these names, and its core's clause holds of what its ends were sent, whatever d stands where there is no end.
  pub record IsClientWorker (scene : Scene) (l : Layout) (client : ℕ) (sent : ℕ → List ℕ) (asked : List ℕ) (w : ClientWorker R) : Type 0 where
    pub number_is : w.number ≡ client
    pub tiles_are : AreInto (tile_count l) sent w.tiles.items
    pub requests_are : lane_in w.requests ≡ asked
    pub clause : (d : LaneIn Parcel R) → IsClientClause scene l client w.core (λ tile. sent_of (slice_index_or w.tiles.items tile d)) (sent_of w.requests) w.ended

  -- whatever scene, layout and lanes a worker is of, it is of them still
  abbrev pub ClientLeads : ClientWorker R → ClientWorker R → Type 0
  ClientLeads a b = (scene : Scene) (l : Layout) (client : ℕ) (sent : ℕ → List ℕ) (asked : List ℕ)
      → IsClientWorker scene l client sent asked a → IsClientWorker scene l client sent asked b

-- What a tile's worker keeps, of its core and its own ends of lanes alone.
use Rattle.std.specs.Prelude.{◌≡◌, ℕ, ◌++◌, true, List, length, slice_index_or, option_to_list, None}
use Rattle.rc_base.specs.declared.cluster.TilePart.{TilePart}
use Rattle.rc_base.specs.declared.scene.Scene.{Scene}
use Rattle.rc_base.specs.declared.state.Parcel.{Parcel}
use Rattle.rc_base.specs.declared.window.Layout.{Layout}
use Rattle.tile_server.specs.Clauses.{IsTileClause}
use Rattle.tile_queues.specs.Ends.{sent_of, taken_of, lane_in, lane_out}
use Rattle.tile_queues.specs.declared.ends.LaneOut.{LaneOut}
use Rattle.tile_queues.specs.Names.{AreOutOf}
use Rattle.cluster_run.specs.declared.workers.TileWorker.{TileWorker}

module _ {R : Type 0} where
  -- the parts that it has shown: those that were sent, and the one that waits for room in the lane
  abbrev pub parts_of : TileWorker R → List TilePart
  parts_of w = sent_of w.parts ++ option_to_list w.held

  -- Its lanes are those of these names, and its core's clause holds of what its ends took and of the parts that it has shown, whatever d stands where
  -- there is no end. Where it has ended no part waits.
  pub record IsTileWorker (scene : Scene) (l : Layout) (tile : ℕ) (took : ℕ → List ℕ) (heard shown : List ℕ) (w : TileWorker R) : Type 0 where
    pub number_is : w.number ≡ tile
    pub clients_are : AreOutOf (length scene.streams) took w.clients.items
    pub grants_are : lane_out w.grants ≡ heard
    pub parts_are : lane_in w.parts ≡ shown
    pub clause : (d : LaneOut Parcel R)
        → IsTileClause scene l tile w.core (λ client. taken_of (slice_index_or w.clients.items client d)) (taken_of w.grants) (parts_of w) w.ended
    pub none_waits : w.ended ≡ true → w.held ≡ None

  -- whatever scene, layout and lanes a worker is of, it is of them still
  abbrev pub TileLeads : TileWorker R → TileWorker R → Type 0
  TileLeads a b = (scene : Scene) (l : Layout) (tile : ℕ) (took : ℕ → List ℕ) (heard shown : List ℕ)
      → IsTileWorker scene l tile took heard shown a → IsTileWorker scene l tile took heard shown b

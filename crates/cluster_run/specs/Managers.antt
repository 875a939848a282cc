-- What a manager's worker keeps, of its core and its own ends of lanes alone.
use Rattle.std.specs.Prelude.{ℕ, List, slice_index_or}
use Rattle.rc_base.specs.Orders.Sync.{client_count}
use Rattle.rc_base.specs.declared.sync.Grant.{Grant}
use Rattle.rc_base.specs.declared.sync.Request.{Request}
use Rattle.rc_base.specs.declared.sync.SyncLists.{SyncLists}
use Rattle.sync_manager.specs.Clauses.{IsManagerClause}
use Rattle.tile_queues.specs.Ends.{sent_of, taken_of}
use Rattle.tile_queues.specs.declared.ends.LaneIn.{LaneIn}
use Rattle.tile_queues.specs.declared.ends.LaneOut.{LaneOut}
use Rattle.tile_queues.specs.Names.{AreInto, AreOutOf}
use Rattle.cluster_run.specs.declared.workers.ManagerWorker.{ManagerWorker}

module _ {R : Type 0} where
  -- Its lanes are those of these names, and its core's clause holds of what its ends took and were sent, whatever d and e stand where
  -- there is no end.
  pub record IsManagerWorker (syncs : SyncLists) (tiles : ℕ) (asked granted : ℕ → List ℕ) (w : ManagerWorker R) : Type 0 where
    pub requests_are : AreOutOf (client_count syncs) asked w.requests.items
    pub grants_are : AreInto tiles granted w.grants.items
    pub clause : (d : LaneOut Request R) (e : LaneIn Grant R)
        → IsManagerClause syncs tiles w.core (λ client. taken_of (slice_index_or w.requests.items client d))
        (λ tile. sent_of (slice_index_or w.grants.items tile e)) w.ended

  -- whatever lists of operations, tiles and lanes a worker is of, it is of them still
  abbrev pub ManagerLeads : ManagerWorker R → ManagerWorker R → Type 0
  ManagerLeads a b = (syncs : SyncLists) (tiles : ℕ) (asked granted : ℕ → List ℕ)
      → IsManagerWorker syncs tiles asked granted a → IsManagerWorker syncs tiles asked granted b

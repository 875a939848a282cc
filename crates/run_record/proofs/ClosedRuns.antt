-- From each core's own clause, with the lanes closed, to what holds of all of them.
use Rattle.std.proofs.Common.{ℕ, ◌<◌, List, length, subst, arith}
use Rattle.std.specs.Prelude.{slice_index_or}
use Rattle.rc_base.specs.Lists.{IsFront}
use Rattle.rc_base.specs.Cluster.Parcels.{parcels_of}
use Rattle.rc_base.specs.Cluster.Tiles.{tile_count}
use Rattle.rc_base.specs.Orders.Journal.{IsLegal}
use Rattle.rc_base.specs.Orders.Sync.{client_count, sync_lists_of}
use Rattle.rc_base.specs.declared.cluster.TilePart.{TilePart}
use Rattle.rc_base.specs.declared.scene.Scene.{Scene}
use Rattle.rc_base.specs.declared.state.Parcel.{Parcel}
use Rattle.rc_base.specs.declared.sync.Grant.{Grant}
use Rattle.rc_base.specs.declared.sync.Request.{Request}
use Rattle.rc_base.specs.declared.window.Layout.{Layout}
use Rattle.client_issue.specs.Clauses.{IsClientDone, EndedClientsAreDone}
use Rattle.client_issue.specs.declared.client.ClientCore.{ClientCore}
use Rattle.order_model.specs.Gathering.{all_grants, LegalBooksHaveLegalJournals}
use Rattle.sync_manager.specs.Clauses.{requests_by, IsManagerDone, EndedManagersAreDone}
use Rattle.sync_manager.specs.declared.manager.ManagerCore.{ManagerCore}
use Rattle.tile_model.specs.Laws.{OperationsAreDeclared}
use Rattle.tile_model.specs.Scenes.{IsInRange, HasSides}
use Rattle.tile_server.specs.Clauses.{EndedTilesAreDone}
use Rattle.tile_server.specs.declared.tile_core.TileCore.{TileCore}
use Rattle.scene_lemmas.proofs.Scenes.{scene_client_count}
use Rattle.rc_base.proofs.Paired.{some_item}
use Rattle.run_record.specs.Closed.{AreClosed, AreDone, IsTileFinished, ClosedRunsAreDone}

-- the laws that are cited
pub record ClosingLaws : Type 0 where
  pub declared : OperationsAreDeclared
  pub clients : EndedClientsAreDone
  pub managers : EndedManagersAreDone
  pub tiles : EndedTilesAreDone
  pub legal : LegalBooksHaveLegalJournals

module _ (laws : ClosingLaws) (scene : Scene) (l : Layout) (clients : List ClientCore) (core : ManagerCore) (tiles : List TileCore) (shown : ℕ → List TilePart)
    (range : IsInRange scene) (sides : HasSides scene.decl) (h : AreClosed scene l clients core tiles shown) where
  client_done : (c : ℕ) (d : ClientCore) → c < length scene.streams → IsClientDone scene l c (slice_index_or clients c d) (h.sent c) (h.asked c)
  client_done c d lt = let e = h.client c d lt in laws.clients scene l c (slice_index_or clients c d) (h.sent c) (h.asked c) e.clause e.ample

  core_of : (c : ℕ) → c < length scene.streams → ClientCore
  core_of c lt = some_item clients c (let n = h.client_total in omega (arith, n, lt))

  parcels_front : (c t : ℕ) → c < length scene.streams → t < tile_count l → IsFront (h.took t c) (parcels_of scene l c t)
  parcels_front c t lc lt = subst (λ (xs : List Parcel). IsFront (h.took t c) xs) ((client_done c (core_of c lc) lc).parcels t lt) (h.parcel_lanes c t lc lt)

  requests_front : (c : ℕ) → c < client_count (sync_lists_of scene) → IsFront (h.received c) (requests_by (sync_lists_of scene) c)
  requests_front c low =
      let lc : c < length scene.streams = subst (λ n. c < n) (scene_client_count scene) low in
      subst (λ (xs : List Request). IsFront (h.received c) xs) ((client_done c (core_of c lc) lc).requests lc) (h.request_lanes c lc)

  manager_done : IsManagerDone (sync_lists_of scene) (tile_count l) h.granted h.managed.progress
  manager_done = laws.managers (sync_lists_of scene) (tile_count l) core h.received h.granted (laws.declared scene range) h.managed h.ample requests_front

  journal_legal : IsLegal (sync_lists_of scene) h.managed.progress.book.journal
  journal_legal = laws.legal (sync_lists_of scene) h.managed.progress.book manager_done.arrived h.managed.stands.book.legal

  tile_done : (t : ℕ) (d : TileCore) → t < tile_count l
      → IsTileFinished scene l t h.managed.progress.book.journal (slice_index_or tiles t d) (shown t)
  tile_done t d lt =
      let x = h.tile t d lt in
      let front : IsFront (h.heard t) (all_grants h.managed.progress.book.journal) = subst (λ (gs : List Grant). IsFront (h.heard t) gs) (manager_done.grants t lt) (h.grant_lanes t lt) in
      let k = laws.tiles scene l t (slice_index_or tiles t d) (h.took t) (h.heard t) (shown t) h.managed.progress.book.journal range sides
      x.clause x.ample journal_legal (λ c lc. parcels_front c t lc lt) front in
      record {
        ample = x.ample;
        progress = k.progress;
        stands = k.right.stands.progress;
        under_way = k.right.stands.stands.progress;
        done = k.done;
        frames = k.right.frames;
      }

  all_done : AreDone scene l clients core tiles shown
  all_done = record {
    client_total = h.client_total;
    tile_total = h.tile_total;
    sent = record {
      at = λ c d lt.
          let lc : c < length scene.streams = subst (λ n. c < n) h.client_total lt in
          let e = h.client c d lc in
          record { whose = e.clause.whose; ample = e.ample; all = (client_done c d lc).nothing };
    };
    tallies = λ c t d lt low. (client_done c d (subst (λ n. c < n) h.client_total lt)).tallies t low;
    progress = h.managed.progress;
    stands = h.managed.stands;
    arrived = manager_done.arrived;
    over = manager_done.over;
    tile = tile_done;
  }

pub closed_done : ClosingLaws → ClosedRunsAreDone
closed_done laws scene l clients core tiles shown range sides h = all_done laws scene l clients core tiles shown range sides h

-- A new world is sound.
use Rattle.std.proofs.Common.{◌≡◌, ℕ, ◌<◌, List, [], ◌++◌, length, slice_get, Some, refl, sym, ap, ◌∙◌, subst}
use Rattle.rc_base.specs.Cluster.Sending.{parcels_to, requests_in}
use Rattle.rc_base.specs.Cluster.Tiles.{tile_count}
use Rattle.rc_base.specs.Drawing.Images.{Pixels}
use Rattle.rc_base.specs.Orders.Book.{IsLegalBook}
use Rattle.rc_base.specs.Orders.Sync.{sync_lists_of}
use Rattle.rc_base.specs.declared.scene.Scene.{Scene}
use Rattle.rc_base.specs.declared.state.Parcel.{Parcel}
use Rattle.rc_base.specs.declared.sync.Request.{Request}
use Rattle.rc_base.specs.declared.window.Layout.{Layout}
use Rattle.client_issue.specs.Laws.{SequencesAreSplit}
use Rattle.order_model.specs.Board.{StandsFor}
use Rattle.order_model.specs.Standing.{Progress}
use Rattle.sync_manager.specs.Progress.{ManagerProgress}
use Rattle.sync_manager.specs.Promises.{grants_of, IsManagerRight, NewManagersAreRight}
use Rattle.tile_model.specs.Items.{shown_frames, grants_heard}
use Rattle.tile_model.specs.Laws.{NewTilesStand}
use Rattle.client_issue.specs.Clauses.{counted}
use Rattle.world_model.specs.Sound.{IsTileSound, IsParcelLane, IsManagerSound, IsSound}
use Rattle.world_model.specs.World.{World, client_total, IsNewWorld}

module _ (scene : Scene) (l : Layout) (w : World) (h : IsNewWorld scene l w) where
  new_lane : SequencesAreSplit → (client tile : ℕ) → client < client_total scene → tile < tile_count l
      → IsParcelLane scene l client tile (w.clients client) (w.parcels client tile) (w.tiles tile)
  new_lane split client tile lc lt = record {
    lane = record {
      took = [];
      count = ap (λ (p : Progress). p.taken client) (h.tiles tile lt).progress;
      whole = sym ((split scene l client).parcels tile lt) ∙ ap (λ items. parcels_to tile items) (sym (h.left client lc))
          ∙ ap (λ (xs : List Parcel). xs ++ parcels_to tile (w.clients client).left) (sym (h.parcels client tile lc lt));
    };
    tally = h.tallies client tile lc ∙ ap (counted scene l client tile) (sym (h.parcels client tile lc lt));
  }

  new_manager : SequencesAreSplit → NewManagersAreRight → IsManagerSound scene l w
  new_manager split right = record {
    took = λ client. [];
    lanes = λ client lc. sym ((split scene l client).requests lc) ∙ ap (λ items. requests_in items) (sym (h.left client lc))
        ∙ ap (λ (xs : List Request). xs ++ requests_in (w.clients client).left) (sym (h.requests client lc));
    nobody_else = λ client le. refl;
    right = subst (λ (d : ManagerProgress). IsManagerRight (sync_lists_of scene) (tile_count l) (λ client. []) (grants_of d) d) (sym h.manager) (right (sync_lists_of scene) (tile_count l));
    legal = subst (λ (d : ManagerProgress). IsLegalBook (sync_lists_of scene) d.book) (sym h.manager) tt;
    ample = ap (λ (d : ManagerProgress). d.short) h.manager;
  }

  new_grants : (tile : ℕ) → tile < tile_count l → grants_of w.manager tile ≡ grants_heard (w.tiles tile).progress ++ w.grants tile
  new_grants tile lt =
      ap (λ (d : ManagerProgress). grants_of d tile) h.manager ∙ sym (h.grants tile lt)
      ∙ ap (λ (p : Progress). grants_heard p ++ w.grants tile) (sym (h.tiles tile lt).progress)

  new_tile : NewTilesStand → (tile : ℕ) → tile < tile_count l → IsTileSound scene l tile w.manager.book.journal (w.tiles tile)
  new_tile stands tile lt =
      let a = h.tiles tile lt in
      record {
        stands = λ later g. subst (λ p. StandsFor scene l tile later p (w.tiles tile).board) (sym a.progress) (stands scene l tile later (w.tiles tile).board a.board);
        parts = record {
          count = ap length a.parts ∙ ap shown_frames (sym a.progress);
          pixels = λ later g more replays k part is. absurd (let none : slice_get [] k ≡ Some part = ap (λ (xs : List Pixels). slice_get xs k) (sym a.parts) ∙ is in cc);
        };
      }

pub new_sound : SequencesAreSplit → NewManagersAreRight → NewTilesStand → (scene : Scene) (l : Layout) (w : World) → IsNewWorld scene l w → IsSound scene l w
new_sound split right stands scene l w h = record {
  left = λ client lc. ([], sym (h.left client lc));
  parcels = new_lane scene l w h split;
  grants = new_grants scene l w h;
  manager = new_manager scene l w h split right;
  tiles = new_tile scene l w h stands;
}

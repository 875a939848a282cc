-- A tile's move leaves the world sound.
use Rattle.std.proofs.Common.{◌≡◌, ℕ, ◌+◌, ◌<◌, List, [], ◌∷◌, ◌++◌, length, refl, sym, ap, ◌∙◌, subst, length-append, append-nil}
use Rattle.std.specs.Prelude.{option_to_list, MatchOption}
use Rattle.rc_base.specs.Cluster.Parcels.{parcels_of}
use Rattle.rc_base.specs.Cluster.Sending.{parcels_to, requests_in, sent_by}
use Rattle.rc_base.specs.Cluster.Tiles.{tile_count}
use Rattle.rc_base.specs.Drawing.Images.{Pixels}
use Rattle.rc_base.specs.Orders.Book.{IsLegalBook}
use Rattle.rc_base.specs.Orders.Sync.{sync_lists_of}
use Rattle.rc_base.specs.declared.scene.Scene.{Scene}
use Rattle.rc_base.specs.declared.sync.Entry.{Entry}
use Rattle.rc_base.specs.declared.sync.Grant.{Grant}
use Rattle.rc_base.specs.declared.sync.Request.{Request}
use Rattle.rc_base.specs.declared.window.Layout.{Layout}
use Rattle.order_model.specs.Board.{StandsFor}
use Rattle.order_model.specs.Standing.{Progress}
use Rattle.sync_manager.specs.Progress.{ManagerProgress}
use Rattle.sync_manager.specs.Promises.{grants_of, IsManagerRight}
use Rattle.tile_model.specs.Items.{Item, after_item, IsAwaited, IsItemOf, parcel_taken, grant_taken, grants_heard}
use Rattle.tile_model.specs.Items.Item.{Nothing, Due, Granted, NoMore, Sent}
use Rattle.tile_model.specs.Laws.{StepsStand, SwapsShowFrames}
use Rattle.tile_model.specs.Scenes.{IsInRange, HasSides}
use Rattle.client_issue.specs.Clauses.{counted}
use Rattle.scene_lemmas.proofs.Scenes.{scene_client_count}
use Rattle.plain_lemmas.proofs.Numbers.{equal_to_itself, at_one_or_other}
use Rattle.world_model.specs.Moves.{IsTileMove}
use Rattle.world_model.specs.Sound.{IsEndOf, GoesOnTo, ArePartsOf, IsTileSound, IsParcelLane, IsSound}
use Rattle.world_model.specs.declared.moves.TileAnswer.{TileAnswer}
use Rattle.world_model.specs.Tiles.{Tile}
use Rattle.world_model.specs.World.{World, Client, client_total}
use Rattle.tile_model.proofs.ItemsComeFromLanes.{heard_after, entry_is_next, taken_after}
use Rattle.world_model.proofs.ItemsComeFromLanes.{parcel_is_next}
use Rattle.world_model.proofs.LanesGoOn.{moved, takes, same_so_far}
use Rattle.world_model.proofs.PartsAreFrames.{parts_go_on}

module _ (scene : Scene) (l : Layout) (depth : ℕ) (w v : World) (tile : ℕ) (answer : TileAnswer) (h : IsSound scene l w) (m : IsTileMove scene l depth w tile answer v) where
  abbrev p : Progress
  p = (w.tiles tile).progress

  -- ---- its lanes

  lane_now : (c : ℕ) → c < client_total scene → IsParcelLane scene l c tile (v.clients c) (v.parcels c tile) (v.tiles tile)
  lane_now c lc =
      let k = h.parcels c tile lc m.low in
      let o = parcel_taken m.item c in
      subst (λ client. IsParcelLane scene l c tile client (v.parcels c tile) (v.tiles tile)) (sym (m.only.clients c lc)) record {
        lane = record {
          took = k.lane.took ++ option_to_list o;
          count =
              ap (λ (q : Progress). q.taken c) m.step.progress ∙ taken_after p m.item c
              ∙ ap (λ n. n + length (option_to_list o)) k.lane.count ∙ sym (length-append k.lane.took (option_to_list o));
          whole = takes o (parcels_of scene l c tile) k.lane.took (w.parcels c tile) (v.parcels c tile) (parcels_to tile (w.clients c).left) (m.parcel c lc) k.lane.whole;
        };
        tally = k.tally ∙ ap (counted scene l c tile) (sym (same_so_far o k.lane.took (w.parcels c tile) (v.parcels c tile) (m.parcel c lc)));
      }

  grants_now : grants_of v.manager tile ≡ grants_heard (v.tiles tile).progress ++ v.grants tile
  grants_now =
      ap (λ (d : ManagerProgress). grants_of d tile) m.only.manager
      ∙ takes (grant_taken m.item) (grants_of w.manager tile) (grants_heard p) (w.grants tile) (v.grants tile) [] m.grant
      (h.grants tile m.low ∙ ap (λ (gs : List Grant). grants_heard p ++ gs) (sym (append-nil (w.grants tile))))
      ∙ ap (λ (gs : List Grant). (grants_heard p ++ option_to_list (grant_taken m.item)) ++ gs) (append-nil (v.grants tile))
      ∙ ap (λ (gs : List Grant). gs ++ v.grants tile) (sym (heard_after p m.item m.step.awaited))
      ∙ ap (λ (q : Progress). grants_heard q ++ v.grants tile) (sym m.step.progress)

  -- ---- its item is the scene's and the journal's

  exists : (later : List Entry) → GoesOnTo (sync_lists_of scene) w.manager.book.journal later → (c : ℕ) → c < p.count → c < client_total scene
  exists later g c low = subst (λ n. c < n) (((h.tiles tile m.low).stands later g).progress.count ∙ scene_client_count scene) low

  item_fits : (later : List Entry) → GoesOnTo (sync_lists_of scene) w.manager.book.journal later → (item : Item) → m.item ≡ item → IsItemOf scene l tile later p item
  item_fits later g Nothing is = tt
  item_fits later g (Due e) is = tt
  item_fits later g NoMore is = tt
  item_fits later g (Granted e) is =
      let awaited = subst (λ i. IsAwaited p i) is m.step.awaited in
      let held : w.grants tile ≡ _ ∷ v.grants tile = subst (λ i. MatchOption (grant_taken i) (v.grants tile ≡ w.grants tile) (λ x. w.grants tile ≡ x ∷ v.grants tile)) is m.grant in
      entry_is_next w.manager.book.journal g.more later (w.manager.delivered tile) (w.manager.told tile) p e (w.grants tile) (v.grants tile) awaited (h.grants tile m.low) held g.whole
  item_fits later g (Sent c parcel) is =
      let awaited = subst (λ i. IsAwaited p i) is m.step.awaited in
      let lc = exists later g c awaited.0 in
      let taken = subst (λ i. MatchOption (parcel_taken i c) (v.parcels c tile ≡ w.parcels c tile) (λ x. w.parcels c tile ≡ x ∷ v.parcels c tile)) is (m.parcel c lc) in
      let held : w.parcels c tile ≡ parcel ∷ v.parcels c tile = rw (equal_to_itself c) at taken in
      parcel_is_next (parcels_of scene l c tile) (p.taken c) (w.parcels c tile) (parcels_to tile (w.clients c).left) (v.parcels c tile) parcel (h.parcels c tile lc m.low).lane held

  -- ---- the tile

  tile_now : StepsStand → SwapsShowFrames → IsInRange scene → HasSides scene.decl → IsTileSound scene l tile w.manager.book.journal (v.tiles tile)
  tile_now steps shows range sides =
      let a = h.tiles tile m.low in
      record {
        stands = λ later g.
            subst (λ q. StandsFor scene l tile later q (v.tiles tile).board) (sym m.step.progress)
            (steps scene l tile later m.item p (w.tiles tile).board (v.tiles tile).board range sides g.legal (a.stands later g) m.step.awaited (item_fits later g m.item refl) m.step.board);
        parts =
            subst (λ q. ArePartsOf scene l tile w.manager.book.journal q (v.tiles tile).parts) (sym m.step.progress)
            (subst (λ (parts : List Pixels). ArePartsOf scene l tile w.manager.book.journal (after_item p m.item) parts) (sym m.step.parts)
            (parts_go_on scene l tile w.manager.book.journal p (w.tiles tile).parts a.parts shows m.item (w.tiles tile).board a.stands m.step.awaited));
      }

  pub tile_keeps : StepsStand → SwapsShowFrames → IsInRange scene → HasSides scene.decl → IsSound scene l v
  tile_keeps steps shows range sides = record {
    left = λ c lc. subst (λ (k : Client). IsEndOf (sent_by scene l c) k.left) (sym (m.only.clients c lc)) (h.left c lc);
    parcels = λ c. at_one_or_other (λ t. c < client_total scene → t < tile_count l → IsParcelLane scene l c t (v.clients c) (v.parcels c t) (v.tiles t)) tile
        (λ lc lt. lane_now c lc)
        (λ t ne lc lt. moved (λ k held a. IsParcelLane scene l c t k held a) (w.clients c) (v.clients c) (w.parcels c t) (v.parcels c t) (w.tiles t) (v.tiles t)
        (m.only.clients c lc) (m.only.parcels c t lc lt ne) (m.only.tiles t lt ne) (h.parcels c t lc lt));
    grants = at_one_or_other (λ t. t < tile_count l → grants_of v.manager t ≡ grants_heard (v.tiles t).progress ++ v.grants t) tile
        (λ lt. grants_now)
        (λ t ne lt. moved (λ (d : ManagerProgress) (held : List Grant) (a : Tile). grants_of d t ≡ grants_heard a.progress ++ held)
        w.manager v.manager (w.grants t) (v.grants t) (w.tiles t) (v.tiles t) m.only.manager (m.only.grants t lt ne) (m.only.tiles t lt ne) (h.grants t lt));
    manager = record {
      took = h.manager.took;
      lanes = λ c lc.
          h.manager.lanes c lc
          ∙ ap (λ (xs : List Request). h.manager.took c ++ (xs ++ requests_in (w.clients c).left)) (sym (m.only.requests c lc))
          ∙ ap (λ (k : Client). h.manager.took c ++ (v.requests c ++ requests_in k.left)) (sym (m.only.clients c lc));
      nobody_else = h.manager.nobody_else;
      right = subst (λ (d : ManagerProgress). IsManagerRight (sync_lists_of scene) (tile_count l) h.manager.took (grants_of d) d) (sym m.only.manager) h.manager.right;
      legal = subst (λ (d : ManagerProgress). IsLegalBook (sync_lists_of scene) d.book) (sym m.only.manager) h.manager.legal;
      ample = ap (λ (d : ManagerProgress). d.short) m.only.manager ∙ h.manager.ample;
    };
    tiles = λ t lt.
        subst (λ (d : ManagerProgress). IsTileSound scene l t d.book.journal (v.tiles t)) (sym m.only.manager)
        (at_one_or_other (λ t. t < tile_count l → IsTileSound scene l t w.manager.book.journal (v.tiles t)) tile
        (λ lt. tile_now steps shows range sides)
        (λ t ne lt. subst (λ a. IsTileSound scene l t w.manager.book.journal a) (sym (m.only.tiles t lt ne)) (h.tiles t lt)) t lt);
  }

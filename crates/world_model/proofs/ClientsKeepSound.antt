-- A client's move leaves the world sound.
use Rattle.std.proofs.Common.{◌≡◌, ℕ, ◌<◌, List, [], ◌∷◌, ◌++◌, sym, ap, ◌∙◌, subst}
use Rattle.std.proofs.lemmas.List.{append_assoc}
use Rattle.rc_base.specs.Cluster.Looks.{looks_at}
use Rattle.rc_base.specs.Cluster.Parcels.{parcels_of}
use Rattle.rc_base.specs.Cluster.Sending.{Sending, ToTile, ToManager, parcels_to, requests_in, sent_by, requests_of}
use Rattle.rc_base.specs.Cluster.Tiles.{tile_count}
use Rattle.rc_base.specs.Orders.Book.{IsLegalBook}
use Rattle.rc_base.specs.Orders.Sync.{sync_lists_of}
use Rattle.rc_base.specs.declared.cluster.ClientMoved.{ClientMoved}
use Rattle.rc_base.specs.declared.cluster.ClientMoved.TheVariants as client_moved
use Rattle.rc_base.specs.declared.scene.Scene.{Scene}
use Rattle.rc_base.specs.declared.state.Parcel.{Parcel}
use Rattle.rc_base.specs.declared.sync.Grant.{Grant}
use Rattle.rc_base.specs.declared.sync.Request.{Request}
use Rattle.rc_base.specs.declared.window.Layout.{Layout}
use Rattle.client_issue.specs.Clauses.{counted}
use Rattle.client_issue.specs.Cores.{tally_after}
use Rattle.client_issue.proofs.Tallies.{counted_more}
use Rattle.sync_manager.specs.Progress.{ManagerProgress}
use Rattle.sync_manager.specs.Promises.{grants_of, IsManagerRight}
use Rattle.tile_model.specs.Items.{grants_heard}
use Rattle.plain_lemmas.proofs.Numbers.{at_one_or_other}
use Rattle.world_model.specs.Moves.{IsAppended, IsRequested, IsIdle, IsClientStep, IsClientMove}
use Rattle.world_model.specs.Sound.{IsEndOf, IsTileSound, IsParcelLane, IsSound}
use Rattle.world_model.specs.Tiles.{Tile}
use Rattle.world_model.specs.World.{World, Client, client_total}
use Rattle.world_model.proofs.LanesGoOn.{moved, gains, this_tile, other_tile}

module _ (scene : Scene) (l : Layout) (depth : ℕ) (w v : World) (client : ℕ) where
  -- what is to be shown of the client's own lanes
  record OwnLanes (h : IsSound scene l w) : Type 0 where
    pub left : IsEndOf (sent_by scene l client) (v.clients client).left
    pub parcels : (tile : ℕ) → tile < tile_count l → IsParcelLane scene l client tile (v.clients client) (v.parcels client tile) (w.tiles tile)
    pub requests : requests_of scene client ≡ h.manager.took client ++ (v.requests client ++ requests_in (v.clients client).left)

  -- ---- the client's own lanes, by what its step does

  module _ (h : IsSound scene l w) (low : client < client_total scene) where
    -- nothing goes to a tile
    unsent : (tile : ℕ) → tile < tile_count l → parcels_to tile (w.clients client).left ≡ parcels_to tile (v.clients client).left
        → v.parcels client tile ≡ w.parcels client tile → (v.clients client).tallies tile ≡ (w.clients client).tallies tile
        → IsParcelLane scene l client tile (v.clients client) (v.parcels client tile) (w.tiles tile)
    unsent tile lt left held tally =
        let k = h.parcels client tile low lt in
        record {
          lane = record {
            took = k.lane.took;
            count = k.lane.count;
            whole = k.lane.whole ∙ ap (λ (xs : List Parcel). k.lane.took ++ (xs ++ parcels_to tile (w.clients client).left)) (sym held)
                ∙ ap (λ (xs : List Parcel). k.lane.took ++ (v.parcels client tile ++ xs)) left;
          };
          tally = tally ∙ k.tally ∙ ap (λ (xs : List Parcel). counted scene l client tile (k.lane.took ++ xs)) (sym held);
        }

    unasked : requests_in (w.clients client).left ≡ requests_in (v.clients client).left → v.requests client ≡ w.requests client
        → requests_of scene client ≡ h.manager.took client ++ (v.requests client ++ requests_in (v.clients client).left)
    unasked left held =
        h.manager.lanes client low ∙ ap (λ (xs : List Request). h.manager.took client ++ (xs ++ requests_in (w.clients client).left)) (sym held)
        ∙ ap (λ (xs : List Request). h.manager.took client ++ (v.requests client ++ xs)) left

    -- the next item of the sequence is sent
    left_on : (item : Sending) → (w.clients client).left ≡ item ∷ (v.clients client).left → IsEndOf (sent_by scene l client) (v.clients client).left
    left_on item next =
        let e = h.left client low in
        (e.0 ++ item ∷ [], e.1 ∙ ap (λ items. e.0 ++ items) next ∙ sym (append_assoc e.0 (item ∷ []) (v.clients client).left))

    idles : IsIdle w client v → OwnLanes h
    idles m = record {
      left = subst (λ items. IsEndOf (sent_by scene l client) items) (sym m.sent.left) (h.left client low);
      parcels = λ tile lt. unsent tile lt (ap (λ items. parcels_to tile items) (sym m.sent.left)) (m.sent.parcels tile) (m.tallies tile);
      requests = unasked (ap (λ items. requests_in items) (sym m.sent.left)) m.sent.requests;
    }

    asks : IsRequested w client v → OwnLanes h
    asks m = record {
      left = left_on (ToManager m.sent.request) m.sent.next;
      parcels = λ tile lt. unsent tile lt (ap (λ items. parcels_to tile items) m.sent.next) (m.sent.parcels tile) (m.tallies tile);
      requests =
          gains (requests_of scene client) (h.manager.took client) (w.requests client) (requests_in (v.clients client).left) m.sent.request
          (h.manager.lanes client low ∙ ap (λ items. h.manager.took client ++ (w.requests client ++ requests_in items)) m.sent.next)
          ∙ ap (λ (xs : List Request). h.manager.took client ++ (xs ++ requests_in (v.clients client).left)) (sym m.sent.appended);
    }

    -- the tile gets a parcel
    this_gets : (tile : ℕ) → tile < tile_count l → IsAppended scene l depth w client tile v → IsParcelLane scene l client tile (v.clients client) (v.parcels client tile) (w.tiles tile)
    this_gets tile lt m =
        let k = h.parcels client tile low lt in
        let p = m.sent.parcel in
        record {
          lane = record {
            took = k.lane.took;
            count = k.lane.count;
            whole =
                gains (parcels_of scene l client tile) k.lane.took (w.parcels client tile) (parcels_to tile (v.clients client).left) p
                (k.lane.whole ∙ ap (λ (xs : List Parcel). k.lane.took ++ (w.parcels client tile ++ xs))
                (ap (λ items. parcels_to tile items) m.sent.next ∙ this_tile tile p (v.clients client).left))
                ∙ ap (λ (xs : List Parcel). k.lane.took ++ (xs ++ parcels_to tile (v.clients client).left)) (sym m.sent.appended);
          };
          tally = m.tallied ∙ ap (λ t. tally_after t p (looks_at scene l client tile p.place)) k.tally ∙ sym (counted_more scene l client tile (k.lane.took ++ w.parcels client tile) p)
              ∙ ap (counted scene l client tile) (append_assoc k.lane.took (w.parcels client tile) (p ∷ []))
              ∙ ap (λ (xs : List Parcel). counted scene l client tile (k.lane.took ++ xs)) (sym m.sent.appended);
        }

    appends : (to : ℕ) → IsAppended scene l depth w client to v → OwnLanes h
    appends to m = record {
      left = left_on (ToTile to m.sent.parcel) m.sent.next;
      parcels = at_one_or_other (λ tile. tile < tile_count l → IsParcelLane scene l client tile (v.clients client) (v.parcels client tile) (w.tiles tile)) to
          (λ lt. this_gets to lt m)
          (λ tile ne lt. unsent tile lt
          (ap (λ items. parcels_to tile items) m.sent.next ∙ other_tile tile to m.sent.parcel (v.clients client).left ne)
          (m.sent.others tile ne) (m.others tile ne));
      requests = unasked (ap (λ items. requests_in items) m.sent.next) m.sent.requests;
    }

    steps : (answer : ClientMoved) → IsClientStep scene l depth w client answer v → OwnLanes h
    steps (client_moved.Appended tile) m = appends tile m
    steps client_moved.Requested m = asks m
    steps (client_moved.BlockedTile tile) m = idles m.idle
    steps client_moved.BlockedRequest m = idles m.idle
    steps client_moved.Ended m = idles m.1

  -- ---- the other lanes

  pub client_keeps : (answer : ClientMoved) → IsSound scene l w → IsClientMove scene l depth w client answer v → IsSound scene l v
  client_keeps answer h m =
      let own = steps h m.low answer m.step in
      record {
        left = at_one_or_other (λ c. c < client_total scene → IsEndOf (sent_by scene l c) (v.clients c).left) client
            (λ lc. own.left)
            (λ c ne lc. subst (λ (k : Client). IsEndOf (sent_by scene l c) k.left) (sym (m.only.clients c lc ne)) (h.left c lc));
        parcels = at_one_or_other (λ c. (tile : ℕ) → c < client_total scene → tile < tile_count l → IsParcelLane scene l c tile (v.clients c) (v.parcels c tile) (v.tiles tile)) client
            (λ tile lc lt. subst (λ a. IsParcelLane scene l client tile (v.clients client) (v.parcels client tile) a) (sym (m.only.tiles tile lt)) (own.parcels tile lt))
            (λ c ne tile lc lt. moved (λ k held a. IsParcelLane scene l c tile k held a) (w.clients c) (v.clients c) (w.parcels c tile) (v.parcels c tile) (w.tiles tile) (v.tiles tile)
            (m.only.clients c lc ne) (m.only.parcels c tile lc lt ne) (m.only.tiles tile lt) (h.parcels c tile lc lt));
        grants = λ tile lt. moved (λ (d : ManagerProgress) (held : List Grant) (a : Tile). grants_of d tile ≡ grants_heard a.progress ++ held)
            w.manager v.manager (w.grants tile) (v.grants tile) (w.tiles tile) (v.tiles tile) m.only.manager (m.only.grants tile lt) (m.only.tiles tile lt) (h.grants tile lt);
        manager = record {
          took = h.manager.took;
          lanes = at_one_or_other (λ c. c < client_total scene → requests_of scene c ≡ h.manager.took c ++ (v.requests c ++ requests_in (v.clients c).left)) client
              (λ lc. own.requests)
              (λ c ne lc. h.manager.lanes c lc
              ∙ ap (λ (xs : List Request). h.manager.took c ++ (xs ++ requests_in (w.clients c).left)) (sym (m.only.requests c lc ne))
              ∙ ap (λ (k : Client). h.manager.took c ++ (v.requests c ++ requests_in k.left)) (sym (m.only.clients c lc ne)));
          nobody_else = h.manager.nobody_else;
          right = subst (λ (d : ManagerProgress). IsManagerRight (sync_lists_of scene) (tile_count l) h.manager.took (grants_of d) d) (sym m.only.manager) h.manager.right;
          legal = subst (λ (d : ManagerProgress). IsLegalBook (sync_lists_of scene) d.book) (sym m.only.manager) h.manager.legal;
          ample = ap (λ (d : ManagerProgress). d.short) m.only.manager ∙ h.manager.ample;
        };
        tiles = λ tile lt. subst (λ a. IsTileSound scene l tile v.manager.book.journal a) (sym (m.only.tiles tile lt))
            (subst (λ (d : ManagerProgress). IsTileSound scene l tile d.book.journal (w.tiles tile)) (sym m.only.manager) (h.tiles tile lt));
      }

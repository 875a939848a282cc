-- Where no actor can move, whoever is short, all have ended. It is shown by counts of operations alone.
use Rattle.std.proofs.Common.{◌≡◌, ℕ, ◌+◌, ◌==◌, ◌<◌, true, false, cond, List, [], ◌∷◌, ◌++◌, ◌⊎◌, take, length, map, Option, Some, None, inl, inr, refl, sym, ap, ◌∙◌, subst, arith, append-nil, eq-eqb, true≢false}
use Rattle.std.proofs.Math.Seq.{take-length}
use Rattle.std.proofs.lemmas.Bool.{cases_Bool, ltb-false, not-false}
use Rattle.std.specs.List.{list_any}
use Rattle.std.specs.Prelude.{is_some}
use Rattle.rc_base.specs.Cluster.Sending.{Sending, ToTile, ToManager, parcels_to, requests_in, request_of}
use Rattle.rc_base.specs.Cluster.Tiles.{tile_count}
use Rattle.rc_base.specs.Orders.Book.{Book, standing, waiting_in}
use Rattle.rc_base.specs.Orders.Journal.{head_wait}
use Rattle.rc_base.specs.Orders.Sync.{sync_lists_of}
use Rattle.rc_base.specs.declared.scene.Scene.{Scene}
use Rattle.rc_base.specs.declared.state.Parcel.{Parcel}
use Rattle.rc_base.specs.declared.sync.Request.{Request}
use Rattle.rc_base.specs.declared.sync.SyncLists.{SyncLists}
use Rattle.rc_base.specs.declared.sync.WaitAt.{WaitAt}
use Rattle.rc_base.specs.declared.window.Layout.{Layout}
use Rattle.order_model.specs.Standing.{Progress, performed_in, is_over}
use Rattle.sync_manager.specs.Progress.{NoMoreComes, IsReceiving, IsDraining, may_arrive, is_end, IsNextDeed}
use Rattle.sync_manager.specs.declared.deed.ManagerDeed.TheVariants.{Finishes}
use Rattle.tile_model.specs.Laws.{MembersAreClients}
use Rattle.scene_lemmas.proofs.Scenes.{scene_client_count}
use Rattle.world_model.specs.Flowing.{waits, asks, uses, is_end_parcel, IsInTurn, IsTileCounted, IsFlowing}
use Rattle.world_model.specs.Turns.{AllHaveStopped}
use Rattle.world_model.specs.World.{World, client_total}
use Rattle.world_model.proofs.OrderlySequences.{no_more_behind, end_request_is_last}
use Rattle.world_model.proofs.TilesAtRest.{TileRests}
use Rattle.world_model.proofs.TilesAtRest as at_rest
use Rattle.world_model.proofs.UsedOperations.{asks_of_waits}

-- ---- what it is that an actor can't move

pub record AtTile (l : Layout) (depth : ℕ) (w : World) (client : ℕ) : Type 0 where
  pub tile : ℕ
  pub parcel : Parcel
  pub rest : List Sending
  pub low : tile < tile_count l
  pub next : (w.clients client).left ≡ ToTile tile parcel ∷ rest
  pub full : length (w.parcels client tile) ≡ depth

pub record AtManager (depth : ℕ) (w : World) (client : ℕ) : Type 0 where
  pub request : Request
  pub rest : List Sending
  pub next : (w.clients client).left ≡ ToManager request ∷ rest
  pub full : length (w.requests client) ≡ depth

-- all is sent, or a lane is full
abbrev pub ClientRests : Layout → ℕ → World → ℕ → Type 0
ClientRests l depth w client = ((w.clients client).left ≡ []) ⊎ (AtTile l depth w client ⊎ AtManager depth w client)

module _ (scene : Scene) (l : Layout) (depth : ℕ) (w : World) where
  pub record FindsFullLane : Type 0 where
    pub tile : ℕ
    pub low : tile < tile_count l
    pub full : length (w.grants tile) ≡ depth

  pub record WaitsForRequests : Type 0 where
    pub receives : IsReceiving (sync_lists_of scene) (tile_count l) w.manager
    pub empty : (client : ℕ) → client < client_total scene → may_arrive (sync_lists_of scene) w.manager.book client ≡ true → w.requests client ≡ []

  pub record WaitsForEnds : Type 0 where
    pub drains : IsDraining (sync_lists_of scene) (tile_count l) w.manager
    pub client : ℕ
    pub low : client < client_total scene
    pub undrained : w.manager.drained client ≡ false
    pub empty : w.requests client ≡ []

  abbrev pub ManagerRests : Type 0
  ManagerRests = FindsFullLane ⊎ (WaitsForRequests ⊎ (WaitsForEnds ⊎ IsNextDeed (sync_lists_of scene) (tile_count l) w.manager Finishes))

  pub record AllRest : Type 0 where
    pub clients : (client : ℕ) → client < client_total scene → ClientRests l depth w client
    pub manager : ManagerRests
    pub tiles : (tile : ℕ) → tile < tile_count l → TileRests scene w tile

-- ---- lists

not_empty : {A : Type 0} (xs : List A) (n : ℕ) → 0 < n → length xs ≡ n → xs ≡ [] → ⊥
not_empty xs n pos e is = let z = ap length is in omega (arith, pos, e, z)

first_of : {A : Type 0} (xs : List A) (n : ℕ) → 0 < n → length xs ≡ n → (x : A) × (rest : List A) × (xs ≡ x ∷ rest)
first_of [] n pos e = absurd (omega (arith, pos, e))
first_of (x ∷ xs) n pos e = (x, xs, refl)

no_request_ends : (ws : List WaitAt) → list_any is_end (map request_of ws) ≡ false
no_request_ends [] = refl
no_request_ends (w ∷ ws) = no_request_ends ws

none_standing : (ws : List WaitAt) → head_wait ws ≡ None → ws ≡ []
none_standing [] e = refl
none_standing (x ∷ ws) e = absurd cc

-- ---- a world in which nobody can move

module _ (members : MembersAreClients) (scene : Scene) (l : Layout) (depth : ℕ) (pos : 0 < depth) (w : World) (f : IsFlowing scene l w) (r : AllRest scene l depth w) where
  abbrev syncs : SyncLists
  syncs = sync_lists_of scene

  abbrev n : ℕ
  n = client_total scene

  abbrev book : Book
  book = w.manager.book

  abbrev p_of : ℕ → Progress
  p_of tile = (w.tiles tile).progress

  -- ---- its tiles and clients

  counted : (tile : ℕ) → tile < tile_count l → (w.tiles tile).short ≡ false → IsTileCounted n (λ client. f.took client tile) (f.heard tile) (w.tiles tile)
  counted tile lt ample = at_rest.counted scene l w f tile lt ample

  arrived_of : (client : ℕ) → asks (f.asked client) ≡ length (book.arrived client) + asks (f.manager.clients client).rest
  arrived_of client = at_rest.arrived_of scene l w f client

  sent_asks : (client : ℕ) → client < n → asks (requests_in (f.sent client)) ≡ asks (f.asked client) + asks (w.requests client)
  sent_asks client lc = at_rest.sent_asks scene l w f client lc

  used : (client : ℕ) → uses n book.journal client + length ((standing syncs book).rest client) ≡ length (book.arrived client)
  used client = at_rest.used scene l w f client

  short_bare : (client tile : ℕ) → client < n → tile < tile_count l → (w.tiles tile).short ≡ true → w.parcels client tile ≡ []
  short_bare client tile lc lt short = at_rest.short_bare scene l w f members tile lt (r.tiles tile lt) client lc short

  free_bare : (client tile : ℕ) → client < n → tile < tile_count l → ((p_of tile).held client ≡ false) ⊎ (is_over (p_of tile) ≡ true) → w.parcels client tile ≡ []
  free_bare client tile lc lt free = at_rest.free_bare scene l w f members tile lt (r.tiles tile lt) client lc free

  all_performed : (tile : ℕ) → tile < tile_count l → (w.tiles tile).short ≡ false → performed_in (p_of tile).log ≡ length (p_of tile).learnt
  all_performed tile lt ample = at_rest.all_performed scene l w f members tile lt (r.tiles tile lt) ample

  equal : (tile : ℕ) → tile < tile_count l → (w.tiles tile).short ≡ false → (performed_in (p_of tile).log == length (p_of tile).learnt) ≡ true
  equal tile lt ample = at_rest.equal scene l w f members tile lt (r.tiles tile lt) ample

  heard_journal : (tile : ℕ) → tile < tile_count l → (w.tiles tile).short ≡ false → (p_of tile).no_more ≡ false
      → ((p_of tile).learnt ≡ take (w.manager.delivered tile) book.journal) × (w.manager.told tile ≡ false)
  heard_journal tile lt ample more = at_rest.heard_journal scene l w f members tile lt (r.tiles tile lt) ample more

  grants_bare : (tile : ℕ) → tile < tile_count l → w.grants tile ≡ []
  grants_bare tile lt = at_rest.grants_bare scene l w f members tile lt (r.tiles tile lt)

  hears_told : (tile : ℕ) → tile < tile_count l → (p_of tile).no_more ≡ w.manager.told tile
  hears_told tile lt = at_rest.hears_told scene l w f members tile lt (r.tiles tile lt)

  over : (tile : ℕ) → tile < tile_count l → w.manager.told tile ≡ true → (w.tiles tile).short ≡ false → is_over (p_of tile) ≡ true
  over tile lt told ample = at_rest.over scene l w f members tile lt (r.tiles tile lt) told ample

  told_bare : (client tile : ℕ) → client < n → tile < tile_count l → w.manager.told tile ≡ true → w.parcels client tile ≡ []
  told_bare client tile lc lt told = at_rest.told_bare scene l w f members tile lt (r.tiles tile lt) client lc told

  no_full_lane : FindsFullLane scene l depth w → ⊥
  no_full_lane b = not_empty (w.grants b.tile) depth pos b.full (grants_bare b.tile b.low)

  -- ---- while more comes

  module _ (wait : WaitsForRequests scene l depth w) where
    more_comes : NoMoreComes syncs w.manager → ⊥
    more_comes (inl short) = true≢false (sym short ∙ wait.receives.ample)
    more_comes (inr is_over) = wait.receives.goes_on is_over

    nobody_arrives : (client : ℕ) → client < n → book.ended client ≡ false → waiting_in syncs book client ≡ None → ⊥
    nobody_arrives client lc running none = by (r.clients client lc)
      where
        may : may_arrive syncs book client ≡ true
        may = rw running (rw none refl)

        bare : w.requests client ≡ []
        bare = wait.empty client lc may

        asked_is : f.asked client ≡ map request_of (book.arrived client)
        asked_is =
            let k = f.manager.clients client in
            k.arrived ∙ ap (λ rs. map request_of (book.arrived client) ++ rs) (k.all running more_comes) ∙ append-nil (map request_of (book.arrived client))

        -- the journal uses all that was sent
        all_used : asks (requests_in (f.sent client)) ≡ uses n book.journal client
        all_used =
            let a = used client in
            let z : length ((standing syncs book).rest client) ≡ 0 = ap length (none_standing ((standing syncs book).rest client) none) in
            let b = ap asks asked_is ∙ asks_of_waits (book.arrived client) in
            let c = sent_asks client lc in
            let d = ap asks bare in
            omega (arith, a, z, b, c, d)

        at_tile : AtTile l depth w client → ⊥
        at_tile b = elim (cases_Bool (w.tiles b.tile).short) [
          | inl short ↦ not_empty (w.parcels client b.tile) depth pos b.full (short_bare client b.tile lc b.low short)
          | inr ample ↦ elim (cases_Bool ((p_of b.tile).held client)) [
            | inr unheld ↦ not_empty (w.parcels client b.tile) depth pos b.full (free_bare client b.tile lc b.low (inl unheld))
            | inl held ↦ elim (cases_Bool (is_over (p_of b.tile))) [
              | inl o ↦ not_empty (w.parcels client b.tile) depth pos b.full (free_bare client b.tile lc b.low (inr o))
              | inr goes_on ↦ held_there ample held goes_on
            ]
          ]
        ]
          where
            t : ℕ
            t = b.tile

            held_there : (w.tiles b.tile).short ≡ false → (p_of b.tile).held client ≡ true → is_over (p_of b.tile) ≡ false → ⊥
            held_there ample held goes_on =
                let p = p_of b.tile in
                let more : p.no_more ≡ false = elim (cases_Bool p.no_more) [ inr g ↦ g | inl y ↦ absurd (true≢false (sym (rw y (equal b.tile b.low ample)) ∙ goes_on)) ] in
                let heard = heard_journal b.tile b.low ample more in
                let within = (f.manager.tiles_are b.tile b.low).within in
                let delivered = ltb-false (w.manager.delivered b.tile) (length book.journal) (wait.receives.delivered b.tile b.low) in
                let whole : p.learnt ≡ book.journal =
                heard.0 ∙ ap (λ k. take k book.journal) (let e : w.manager.delivered b.tile ≡ length book.journal = omega (arith, within, delivered) in e) ∙ take-length book.journal in
                let taken : take (performed_in p.log) p.learnt ≡ book.journal =
                ap (λ k. take k p.learnt) (all_performed b.tile b.low ample) ∙ take-length p.learnt ∙ whole in
                let told : waits (f.took client b.tile) ≡ uses n (take (performed_in p.log) p.learnt) client + cond {A = ℕ} (p.held client) 1 0 =
                (counted b.tile b.low ample).held client lc goes_on in
                let one : cond {A = ℕ} (p.held client) 1 0 ≡ 1 = ap (λ b. cond {A = ℕ} b 1 0) held in
                let same : uses n (take (performed_in p.log) p.learnt) client ≡ uses n book.journal client = ap (λ es. uses n es client) taken in
                let first = first_of (w.parcels client b.tile) depth pos b.full in
                let all = all_used in
                no_more_behind b.tile 0 0 (f.sent client) (f.took client b.tile) first.1 first.0 b.parcel b.rest
                (subst (λ items. IsInTurn b.tile 0 0 (f.sent client ++ items)) b.next ((f.orderly client lc).turns b.tile b.low))
                (eq-eqb b.tile b.tile refl) (f.parcels client b.tile lc b.low ∙ ap (λ ps. f.took client b.tile ++ ps) first.2)
                (omega (arith, told, one, same, all))

        by : ClientRests l depth w client → ⊥
        by (inl none_left) =
            let ends = (f.orderly client lc).ends in
            let all : requests_in (f.sent client ++ (w.clients client).left) ≡ map request_of (book.arrived client) =
            ap (λ items. requests_in (f.sent client ++ items)) none_left ∙ ap requests_in (append-nil (f.sent client)) ∙ f.requests client lc
            ∙ ap (λ rs. f.asked client ++ rs) bare ∙ append-nil (f.asked client) ∙ asked_is in
            true≢false (sym ends ∙ ap (list_any is_end) all ∙ no_request_ends (book.arrived client))
        by (inr (inl b)) = at_tile b
        by (inr (inr b)) = not_empty (w.requests client) depth pos b.full bare

    pub not_waiting : ⊥
    not_waiting = wait.receives.goes_on record {
      all = λ client low running. by client (waiting_in syncs book client) refl (subst (λ m. client < m) (scene_client_count scene) low) running;
      over = wait.receives.nothing;
    }
      where
        by : (client : ℕ) (o : Option WaitAt) → waiting_in syncs book client ≡ o → client < n → book.ended client ≡ false → is_some (waiting_in syncs book client) ≡ true
        by client None is lc running = absurd (nobody_arrives client lc running is)
        by client (Some x) is lc running = ap is_some is

  -- ---- where no more comes

  told_all : (tile : ℕ) → IsDraining syncs (tile_count l) w.manager → tile < tile_count l → w.manager.told tile ≡ true
  told_all tile drains lt = not-false (w.manager.told tile) (drains.told tile lt)

  not_left : WaitsForEnds scene l depth w → ⊥
  not_left b = by (r.clients b.client b.low)
    where
      by : ClientRests l depth w b.client → ⊥
      by (inl none) =
          let ends = (f.orderly b.client b.low).ends in
          let all : requests_in (f.sent b.client ++ (w.clients b.client).left) ≡ f.asked b.client =
          ap (λ items. requests_in (f.sent b.client ++ items)) none ∙ ap requests_in (append-nil (f.sent b.client)) ∙ f.requests b.client b.low
          ∙ ap (λ rs. f.asked b.client ++ rs) b.empty ∙ append-nil (f.asked b.client) in
          true≢false (sym ((f.manager.clients b.client).drained ∙ ap (list_any is_end) (sym all) ∙ ends) ∙ b.undrained)
      by (inr (inl a)) = not_empty (w.parcels b.client a.tile) depth pos a.full (told_bare b.client a.tile b.low a.low (told_all a.tile b.drains a.low))
      by (inr (inr a)) = not_empty (w.requests b.client) depth pos a.full b.empty

  -- ---- so all have ended

  module _ (finished : IsNextDeed syncs (tile_count l) w.manager Finishes) where
    all_sent : (client : ℕ) → client < n → (w.clients client).left ≡ []
    all_sent client lc =
        let drained = finished.1 client (subst (λ m. client < m) (sym (scene_client_count scene)) lc) in
        (end_request_is_last (f.sent client) (w.clients client).left (f.asked client) (w.requests client) (f.orderly client lc).last (f.requests client lc)
        (sym (f.manager.clients client).drained ∙ drained)).1

    all_closed : (tile : ℕ) → tile < tile_count l → (client : ℕ) → client < (p_of tile).count → (p_of tile).closed client ≡ true
    all_closed tile lt client low =
        let lc : client < n = subst (λ m. client < m) (f.tiles tile lt).count low in
        let bare = told_bare client tile lc lt (told_all tile finished.0 lt) in
        let all : parcels_to tile (f.sent client ++ (w.clients client).left) ≡ f.took client tile =
        ap (λ items. parcels_to tile (f.sent client ++ items)) (all_sent client lc) ∙ ap (parcels_to tile) (append-nil (f.sent client)) ∙ f.parcels client tile lc lt
        ∙ ap (λ ps. f.took client tile ++ ps) bare ∙ append-nil (f.took client tile) in
        (f.tiles tile lt).closed client lc ∙ ap (list_any is_end_parcel) (sym all) ∙ (f.orderly client lc).tile_ends tile lt

    all_ended : AllHaveStopped scene l w
    all_ended = record {
      clients = all_sent;
      manager = finished;
      tiles = λ tile lt. record {
        no_more = hears_told tile lt ∙ told_all tile finished.0 lt;
        performed = over tile lt (told_all tile finished.0 lt);
        closed = all_closed tile lt;
      };
    }

  pub somebody_can_move : AllHaveStopped scene l w
  somebody_can_move = by r.manager
    where
      by : ManagerRests scene l depth w → AllHaveStopped scene l w
      by (inl b) = absurd (no_full_lane b)
      by (inr (inl b)) = absurd (not_waiting b)
      by (inr (inr (inl b))) = absurd (not_left b)
      by (inr (inr (inr b))) = all_ended b

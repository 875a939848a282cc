-- A turn of whichever actor, short or not, leaves a flowing world flowing.
use Rattle.std.proofs.Common.{◌≡◌, ◌≢◌, ◌⊎◌, ℕ, zero, suc, ◌+◌, ◌==◌, ◌||◌, ◌<◌, ◌≤◌, true, cond, List, [], ◌∷◌, ◌++◌, length, inl, inr, refl, sym, ap, ◌∙◌, subst, arith, append_assoc, append-nil, eqb-true, eq-eqb, true≢false}
use mathlib.Core.Path.{fun_ext}
use Rattle.std.proofs.lemmas.Bool.{cases_Bool, ne_eqb}
use Rattle.std.specs.List.{flat_map, list_any, range_with_len}
use Rattle.std.specs.Prelude.{option_to_list, MatchOption, Result, Ok, Err}
use Rattle.std.proofs.Math.Bool.{or-true}
use Rattle.rc_base.specs.Cluster.Parcels.{end_parcel}
use Rattle.rc_base.specs.Cluster.Sending.{Sending, ToTile, ToManager, parcels_to, requests_in, sent_last}
use Rattle.rc_base.specs.Cluster.Tiles.{tile_count}
use Rattle.rc_base.specs.Contexts.Issue.{stream_of}
use Rattle.rc_base.specs.Orders.Book.{with_at, IsLegalBook}
use Rattle.rc_base.specs.Orders.Sync.{client_count, sync_lists_of}
use Rattle.rc_base.specs.declared.cluster.ClientMoved.{ClientMoved}
use Rattle.rc_base.specs.declared.cluster.ClientMoved.TheVariants as client_moved
use Rattle.rc_base.specs.declared.cluster.ManagerMoved.{ManagerMoved}
use Rattle.rc_base.specs.declared.out_of_memory.OutOfMemory.{OutOfMemory}
use Rattle.rc_base.specs.declared.scene.Scene.{Scene}
use Rattle.rc_base.specs.declared.state.Parcel.{Parcel}
use Rattle.rc_base.specs.declared.sync.Grant.{Grant}
use Rattle.rc_base.specs.declared.sync.Request.{Request}
use Rattle.rc_base.specs.declared.sync.Request.TheVariants as request
use Rattle.rc_base.specs.declared.window.Layout.{Layout}
use Rattle.order_model.specs.Laws.{BooksStayLegal}
use Rattle.order_model.specs.Standing.{Progress}
use Rattle.sync_manager.specs.Progress.{ManagerProgress, taken_of, sent_to, is_end}
use Rattle.sync_manager.specs.Promises.{grants_of, IsManagerRight, StepsKeepManagersRight}
use Rattle.tile_model.specs.Items.{Item, grant_taken, parcel_taken}
use Rattle.tile_model.specs.Items.Item.{Nothing, Due, Granted, NoMore, Sent}
use Rattle.scene_lemmas.proofs.Scenes.{scene_client_count}
use Rattle.scene_lemmas.proofs.Sendings.{parcels_append, requests_append}
use Rattle.scene_lemmas.proofs.Numbered.{with_here, with_other}
use Rattle.plain_lemmas.proofs.Numbers.{equal_to_itself, at_one_or_other}
use Rattle.world_model.specs.Flowing.{IsInTurn, EndsWithRequest, IsOrderly, is_end_parcel, IsTileFlowing, IsFlowing}
use Rattle.world_model.specs.Moves.{IsIdle, OnlyClient, OnlyTile, IsClientStepSeeing, IsManagerStepSeeing, IsTileMoveSeeing}
use Rattle.world_model.specs.Short.{MayLose}
use Rattle.world_model.specs.Tiles.{Tile}
use Rattle.world_model.specs.Turns.{Turn, IsClientLoss, IsShortTileMoveSeeing, IsTurnSeeing}
use Rattle.world_model.specs.Turns.Turn.{ClientTurn, ManagerTurn, TileTurn}
use Rattle.world_model.specs.World.{World, Client, Lanes, client_total}
use Rattle.world_model.proofs.LanesGoOn.{same_so_far}
use Rattle.world_model.proofs.ManagersKeepSound.{stays_legal, none_beyond}
use Rattle.world_model.proofs.OrderlySequences.{any_append, cut_turns, cut_requests}
use Rattle.world_model.proofs.TilesKeepFlowing.{tile_flows, short_tile_flows}

-- ---- End parcels and the End request

module _ (place : ℕ) where
  abbrev lasts : ℕ → ℕ → List Sending
  lasts from n = flat_map (λ k. ToTile k (end_parcel place) ∷ []) (range_with_len from n) ++ ToManager request.End ∷ []

  none_before : (tile from n : ℕ) → tile < from → parcels_to tile (lasts from n) ≡ []
  none_before tile from zero lt = refl
  none_before tile from (suc n) lt = rw (ne_eqb tile from (λ e. omega (arith, e, lt))) (none_before tile (from + 1) n (omega (arith, lt)))

  lasts_turns : (tile from n told asked : ℕ) → IsInTurn tile told asked (lasts from n)
  lasts_turns tile from zero told asked = (tt, tt)
  lasts_turns tile from (suc n) told asked = (
    λ t. record {
      asked_all = λ no. absurd (true≢false no);
      last = λ y. none_before tile (from + 1) n (let e = eqb-true tile from t in omega (arith, e));
    },
    lasts_turns tile (from + 1) n (told + cond (tile == from) 0 0) asked,
  )

  lasts_end : (tile from n : ℕ) → from ≤ tile → tile < from + n → list_any is_end_parcel (parcels_to tile (lasts from n)) ≡ true
  lasts_end tile from zero le lt = absurd (omega (arith, le, lt))
  lasts_end tile from (suc n) le lt = elim (cases_Bool (tile == from)) [
    | inl t ↦ rw t refl
    | inr g ↦ rw g (lasts_end tile (from + 1) n (let ne : tile ≢ from = λ e. true≢false (sym (eq-eqb tile from e) ∙ g) in omega (arith, ne, le)) (omega (arith, lt)))
  ]

  lasts_ask : (from n : ℕ) → list_any is_end (requests_in (lasts from n)) ≡ true
  lasts_ask from zero = refl
  lasts_ask from (suc n) = lasts_ask (from + 1) n

  lasts_are_last : (from n : ℕ) → EndsWithRequest (lasts from n)
  lasts_are_last from zero = (λ y. refl, tt)
  lasts_are_last from (suc n) = lasts_are_last (from + 1) n

-- where only these are left, the sequence is still in order
pub cut_orderly : (scene : Scene) (l : Layout) (client : ℕ) (sent dropped : List Sending) → IsOrderly l (sent ++ (dropped ++ sent_last scene l client))
    → IsOrderly l (sent ++ sent_last scene l client)
cut_orderly scene l client sent dropped h =
    let place = length (stream_of scene client) in
    record {
      turns = λ tile lt. cut_turns tile 0 0 sent dropped (sent_last scene l client) (h.turns tile lt) (lasts_turns place tile 0 (tile_count l));
      tile_ends = λ tile lt.
          ap (list_any is_end_parcel) (parcels_append tile sent (sent_last scene l client))
          ∙ any_append is_end_parcel (parcels_to tile sent) (parcels_to tile (sent_last scene l client))
          ∙ ap (λ b. list_any is_end_parcel (parcels_to tile sent) || b) (lasts_end place tile 0 (tile_count l) (omega arith) (omega (arith, lt)))
          ∙ or-true (list_any is_end_parcel (parcels_to tile sent));
      last = cut_requests sent dropped (sent_last scene l client) h.last (lasts_are_last place 0 (tile_count l));
      ends =
          ap (list_any is_end) (requests_append sent (sent_last scene l client))
          ∙ any_append is_end (requests_in sent) (requests_in (sent_last scene l client))
          ∙ ap (λ b. list_any is_end (requests_in sent) || b) (lasts_ask place 0 (tile_count l))
          ∙ or-true (list_any is_end (requests_in sent));
    }

-- ---- a client

module _ (scene : Scene) (l : Layout) (depth : ℕ) (w v : World) (f : IsFlowing scene l w) (client : ℕ) (low : client < client_total scene) (only : OnlyClient scene l w client v) where
  -- what it sends, lane by lane
  record Sends (items : List Sending) : Type 0 where
    pub orderly : IsOrderly l ((f.sent client ++ items) ++ (v.clients client).left)
    pub parcels : (tile : ℕ) → tile < tile_count l → v.parcels client tile ≡ w.parcels client tile ++ parcels_to tile items
    pub requests : v.requests client ≡ w.requests client ++ requests_in items

  client_flows : (items : List Sending) → Sends items → IsFlowing scene l v
  client_flows items s = record {
    sent = with_at f.sent client (f.sent client ++ items);
    took = f.took;
    asked = f.asked;
    heard = f.heard;
    orderly = at_one_or_other (λ c. c < client_total scene → IsOrderly l (with_at f.sent client (f.sent client ++ items) c ++ (v.clients c).left)) client
        (λ lc. subst (λ xs. IsOrderly l (xs ++ (v.clients client).left)) (sym (with_here f.sent client (f.sent client ++ items))) s.orderly)
        (λ c ne lc. subst (λ xs. IsOrderly l (xs ++ (v.clients c).left)) (sym (with_other f.sent client (f.sent client ++ items) c ne))
        (subst (λ (k : Client). IsOrderly l (f.sent c ++ k.left)) (sym (only.clients c lc ne)) (f.orderly c lc)));
    parcels = at_one_or_other (λ c. (tile : ℕ) → c < client_total scene → tile < tile_count l
        → parcels_to tile (with_at f.sent client (f.sent client ++ items) c) ≡ f.took c tile ++ v.parcels c tile) client
        (λ tile lc lt. ap (parcels_to tile) (with_here f.sent client (f.sent client ++ items)) ∙ parcels_append tile (f.sent client) items
        ∙ ap (λ (ps : List Parcel). ps ++ parcels_to tile items) (f.parcels client tile lc lt)
        ∙ append_assoc (f.took client tile) (w.parcels client tile) (parcels_to tile items)
        ∙ ap (λ (ps : List Parcel). f.took client tile ++ ps) (sym (s.parcels tile lt)))
        (λ c ne tile lc lt. ap (parcels_to tile) (with_other f.sent client (f.sent client ++ items) c ne) ∙ f.parcels c tile lc lt
        ∙ ap (λ (ps : List Parcel). f.took c tile ++ ps) (sym (only.parcels c tile lc lt ne)));
    requests = at_one_or_other (λ c. c < client_total scene → requests_in (with_at f.sent client (f.sent client ++ items) c) ≡ f.asked c ++ v.requests c) client
        (λ lc. ap requests_in (with_here f.sent client (f.sent client ++ items)) ∙ requests_append (f.sent client) items
        ∙ ap (λ (rs : List Request). rs ++ requests_in items) (f.requests client lc) ∙ append_assoc (f.asked client) (w.requests client) (requests_in items)
        ∙ ap (λ (rs : List Request). f.asked client ++ rs) (sym s.requests))
        (λ c ne lc. ap requests_in (with_other f.sent client (f.sent client ++ items) c ne) ∙ f.requests c lc
        ∙ ap (λ (rs : List Request). f.asked c ++ rs) (sym (only.requests c lc ne)));
    nobody_else = f.nobody_else;
    grants = λ tile lt. ap (λ (d : ManagerProgress). grants_of d tile) only.manager ∙ f.grants tile lt
        ∙ ap (λ (gs : List Grant). f.heard tile ++ gs) (sym (only.grants tile lt));
    manager = subst (λ (d : ManagerProgress). IsManagerRight (sync_lists_of scene) (tile_count l) f.asked (grants_of d) d) (sym only.manager) f.manager;
    legal = subst (λ (d : ManagerProgress). IsLegalBook (sync_lists_of scene) d.book) (sym only.manager) f.legal;
    tiles = λ tile lt. subst (λ (a : Tile). IsTileFlowing (client_total scene) (λ c. f.took c tile) (f.heard tile) a) (sym (only.tiles tile lt)) (f.tiles tile lt);
  }

  -- the items go on where it stopped
  goes_on : (items : List Sending) → (w.clients client).left ≡ items ++ (v.clients client).left → IsOrderly l ((f.sent client ++ items) ++ (v.clients client).left)
  goes_on items e = subst (IsOrderly l) (ap (λ xs. f.sent client ++ xs) e ∙ sym (append_assoc (f.sent client) items (v.clients client).left)) (f.orderly client low)

  idle_flows : IsIdle w client v → IsFlowing scene l v
  idle_flows i = client_flows [] record {
    orderly = goes_on [] (sym i.sent.left);
    parcels = λ tile lt. i.sent.parcels tile ∙ sym (append-nil (w.parcels client tile));
    requests = i.sent.requests ∙ sym (append-nil (w.requests client));
  }

  step_flows : (seen : Lanes) (answer : ClientMoved) → IsClientStepSeeing scene l depth w seen client answer v → IsFlowing scene l v
  step_flows seen (client_moved.Appended tile) m = client_flows (ToTile tile m.sent.parcel ∷ []) record {
    orderly = goes_on (ToTile tile m.sent.parcel ∷ []) m.sent.next;
    parcels = at_one_or_other (λ t. t < tile_count l → v.parcels client t ≡ w.parcels client t ++ parcels_to t (ToTile tile m.sent.parcel ∷ [])) tile
        (λ lt. m.sent.appended ∙ ap (λ (ps : List Parcel). w.parcels client tile ++ ps) (rw (equal_to_itself tile) refl))
        (λ t ne lt. m.sent.others t ne ∙ sym (append-nil (w.parcels client t)) ∙ ap (λ (ps : List Parcel). w.parcels client t ++ ps) (rw (ne_eqb t tile ne) refl));
    requests = m.sent.requests ∙ sym (append-nil (w.requests client));
  }
  step_flows seen client_moved.Requested m = client_flows (ToManager m.sent.request ∷ []) record {
    orderly = goes_on (ToManager m.sent.request ∷ []) m.sent.next;
    parcels = λ tile lt. m.sent.parcels tile ∙ sym (append-nil (w.parcels client tile));
    requests = m.sent.appended;
  }
  step_flows seen (client_moved.BlockedTile tile) m = idle_flows m.idle
  step_flows seen client_moved.BlockedRequest m = idle_flows m.idle
  step_flows seen client_moved.Ended m = idle_flows m.1

loss_flows : (scene : Scene) (l : Layout) (depth : ℕ) (w v : World) (client : ℕ) → IsFlowing scene l w → IsClientLoss scene l depth w client v → IsFlowing scene l v
loss_flows scene l depth w v client f m = client_flows scene l depth w v f client m.low m.only [] record {
  orderly =
      subst (λ xs. IsOrderly l (xs ++ (v.clients client).left)) (sym (append-nil (f.sent client)))
      (subst (λ xs. IsOrderly l (f.sent client ++ xs)) (sym m.left)
      (cut_orderly scene l client (f.sent client) m.dropped (subst (λ xs. IsOrderly l (f.sent client ++ xs)) m.before (f.orderly client m.low))));
  parcels = λ tile lt. m.parcels tile lt ∙ sym (append-nil (w.parcels client tile));
  requests = m.requests ∙ sym (append-nil (w.requests client));
}

-- ---- the manager

manager_flows : BooksStayLegal → StepsKeepManagersRight → (scene : Scene) (l : Layout) (depth : ℕ) (w v : World) (seen : Lanes) (answer : Result ManagerMoved OutOfMemory)
    → IsFlowing scene l w → IsManagerStepSeeing scene l depth w seen answer v → IsFlowing scene l v
manager_flows books steps scene l depth w v seen answer f m =
    let syncs = sync_lists_of scene in
    let d = w.manager in
    let asked : ℕ → List Request = λ c. f.asked c ++ option_to_list (taken_of m.deed c) in
    let right = steps syncs (tile_count l) f.asked (grants_of d) d m.deed f.manager m.next in
    record {
      sent = f.sent;
      took = f.took;
      asked = asked;
      heard = f.heard;
      orderly = λ c lc. subst (λ (k : Client). IsOrderly l (f.sent c ++ k.left)) (sym (m.only.clients c lc)) (f.orderly c lc);
      parcels = λ c tile lc lt. f.parcels c tile lc lt ∙ ap (λ (ps : List Parcel). f.took c tile ++ ps) (sym (m.only.parcels c tile lc lt));
      requests = λ c lc. f.requests c lc ∙ sym (same_so_far (taken_of m.deed c) (f.asked c) (w.requests c) (v.requests c) (m.taken c lc));
      nobody_else = λ c le.
          let low : client_count syncs ≤ c = omega (arith, scene_client_count scene, le) in
          ap (λ (xs : List Request). xs ++ option_to_list (taken_of m.deed c)) (f.nobody_else c le)
          ∙ ap (λ o. [] ++ option_to_list o) (none_beyond syncs (tile_count l) d m.deed m.next c low);
      grants = λ tile lt.
          ap (λ (e : ManagerProgress). grants_of e tile) m.manager
          ∙ sym (right.tiles_are tile lt).grants
          ∙ ap (λ (xs : List Grant). xs ++ sent_to m.deed tile) (f.grants tile lt)
          ∙ append_assoc (f.heard tile) (w.grants tile) (sent_to m.deed tile)
          ∙ ap (λ (xs : List Grant). f.heard tile ++ xs) (sym (m.sent tile lt));
      manager = subst (λ (e : ManagerProgress). IsManagerRight syncs (tile_count l) asked (grants_of e) e) (sym m.manager) record {
        clients = right.clients;
        tiles_are = λ tile lt. let s = right.tiles_are tile lt in record { grants = refl; within = s.within; whole = s.whole; over = s.over };
      };
      legal = subst (λ (e : ManagerProgress). IsLegalBook syncs e.book) (sym m.manager) (stays_legal syncs (tile_count l) d books m.deed m.next f.legal);
      tiles = λ tile lt. subst (λ (a : Tile). IsTileFlowing (client_total scene) (λ c. f.took c tile) (f.heard tile) a) (sym (m.only.tiles tile lt)) (f.tiles tile lt);
    }

-- ---- a tile

module _ (scene : Scene) (l : Layout) (w v : World) (f : IsFlowing scene l w) (tile : ℕ) (low : tile < tile_count l) (only : OnlyTile scene l w tile v) (item : Item)
    (parcel : (client : ℕ) → client < client_total scene
    → MatchOption (parcel_taken item client) (v.parcels client tile ≡ w.parcels client tile) (λ p. w.parcels client tile ≡ p ∷ v.parcels client tile))
    (grant : MatchOption (grant_taken item) (v.grants tile ≡ w.grants tile) (λ g. w.grants tile ≡ g ∷ v.grants tile))
    (now : IsTileFlowing (client_total scene) (λ c. f.took c tile ++ option_to_list (parcel_taken item c)) (f.heard tile ++ option_to_list (grant_taken item)) (v.tiles tile)) where
  abbrev took : ℕ → ℕ → List Parcel
  took c = with_at (f.took c) tile (f.took c tile ++ option_to_list (parcel_taken item c))

  abbrev heard : ℕ → List Grant
  heard = with_at f.heard tile (f.heard tile ++ option_to_list (grant_taken item))

  takes_flow : IsFlowing scene l v
  takes_flow = record {
    sent = f.sent;
    took = took;
    asked = f.asked;
    heard = heard;
    orderly = λ c lc. subst (λ (k : Client). IsOrderly l (f.sent c ++ k.left)) (sym (only.clients c lc)) (f.orderly c lc);
    parcels = λ c. at_one_or_other (λ t. c < client_total scene → t < tile_count l → parcels_to t (f.sent c) ≡ took c t ++ v.parcels c t) tile
        (λ lc lt. f.parcels c tile lc lt ∙ sym (same_so_far (parcel_taken item c) (f.took c tile) (w.parcels c tile) (v.parcels c tile) (parcel c lc))
        ∙ ap (λ (ps : List Parcel). ps ++ v.parcels c tile) (sym (with_here (f.took c) tile (f.took c tile ++ option_to_list (parcel_taken item c)))))
        (λ t ne lc lt. f.parcels c t lc lt ∙ ap (λ (ps : List Parcel). f.took c t ++ ps) (sym (only.parcels c t lc lt ne))
        ∙ ap (λ (ps : List Parcel). ps ++ v.parcels c t) (sym (with_other (f.took c) tile (f.took c tile ++ option_to_list (parcel_taken item c)) t ne)));
    requests = λ c lc. f.requests c lc ∙ ap (λ (rs : List Request). f.asked c ++ rs) (sym (only.requests c lc));
    nobody_else = f.nobody_else;
    grants = at_one_or_other (λ t. t < tile_count l → grants_of v.manager t ≡ heard t ++ v.grants t) tile
        (λ lt. ap (λ (d : ManagerProgress). grants_of d tile) only.manager ∙ f.grants tile lt
        ∙ sym (same_so_far (grant_taken item) (f.heard tile) (w.grants tile) (v.grants tile) grant)
        ∙ ap (λ (gs : List Grant). gs ++ v.grants tile) (sym (with_here f.heard tile (f.heard tile ++ option_to_list (grant_taken item)))))
        (λ t ne lt. ap (λ (d : ManagerProgress). grants_of d t) only.manager ∙ f.grants t lt ∙ ap (λ (gs : List Grant). f.heard t ++ gs) (sym (only.grants t lt ne))
        ∙ ap (λ (gs : List Grant). gs ++ v.grants t) (sym (with_other f.heard tile (f.heard tile ++ option_to_list (grant_taken item)) t ne)));
    manager = subst (λ (d : ManagerProgress). IsManagerRight (sync_lists_of scene) (tile_count l) f.asked (grants_of d) d) (sym only.manager) f.manager;
    legal = subst (λ (d : ManagerProgress). IsLegalBook (sync_lists_of scene) d.book) (sym only.manager) f.legal;
    tiles = at_one_or_other (λ t. t < tile_count l → IsTileFlowing (client_total scene) (λ c. took c t) (heard t) (v.tiles t)) tile
        (λ lt. flowing_as (client_total scene) (λ c. f.took c tile ++ option_to_list (parcel_taken item c)) (λ c. took c tile) (f.heard tile ++ option_to_list (grant_taken item)) (heard tile) (v.tiles tile)
        (λ c. with_here (f.took c) tile (f.took c tile ++ option_to_list (parcel_taken item c))) (with_here f.heard tile (f.heard tile ++ option_to_list (grant_taken item))) now)
        (λ t ne lt. flowing_as (client_total scene) (λ c. f.took c t) (λ c. took c t) (f.heard t) (heard t) (v.tiles t)
        (λ c. with_other (f.took c) tile (f.took c tile ++ option_to_list (parcel_taken item c)) t ne) (with_other f.heard tile (f.heard tile ++ option_to_list (grant_taken item)) t ne)
        (subst (λ (a : Tile). IsTileFlowing (client_total scene) (λ c. f.took c t) (f.heard t) a) (sym (only.tiles t lt ne)) (f.tiles t lt)));
  }
    where
      flowing_as : (n : ℕ) (took took' : ℕ → List Parcel) (heard heard' : List Grant) (a : Tile) → ((c : ℕ) → took' c ≡ took c) → heard' ≡ heard
          → IsTileFlowing n took heard a → IsTileFlowing n took' heard' a
      flowing_as n took took' heard heard' a e g h =
          subst (λ hs. IsTileFlowing n took' hs a) (sym g) (subst (λ (ts : ℕ → List Parcel). IsTileFlowing n ts heard a) (sym (fun_ext e)) h)

pub turn_flows : BooksStayLegal → StepsKeepManagersRight → (scene : Scene) (l : Layout) (depth : ℕ) (w v : World) (seen : Lanes) (turn : Turn) → IsFlowing scene l w
    → IsTurnSeeing scene l depth w seen turn v → IsFlowing scene l v
turn_flows books steps scene l depth w v seen (ClientTurn client (Ok answer)) f m = step_flows scene l depth w v f client m.step.low m.step.only seen answer m.step.step
turn_flows books steps scene l depth w v seen (ClientTurn client (Err error)) f m = loss_flows scene l depth w v client f m.step
turn_flows books steps scene l depth w v seen (ManagerTurn answer) f m = manager_flows books steps scene l depth w v seen answer f m.step
turn_flows books steps scene l depth w v seen (TileTurn tile (Ok answer)) f m = by m.step
  where
    by : IsTileMoveSeeing scene l depth w seen tile answer v ⊎ IsShortTileMoveSeeing scene l depth w seen tile answer v → IsFlowing scene l v
    by (inl t) = takes_flow scene l w v f tile t.low t.only t.item t.parcel t.grant
        (tile_flows (client_total scene) (λ c. f.took c tile) (f.heard tile) (w.tiles tile) (v.tiles tile) t.item (f.tiles tile t.low) t.step.ample t.step.awaited t.step.progress)
    by (inr t) = takes_flow scene l w v f tile t.low t.only t.item t.parcel t.grant
        (short_tile_flows (client_total scene) (λ c. f.took c tile) (f.heard tile) (w.tiles tile) (v.tiles tile) t.item (f.tiles tile t.low) t.still_short t.progress)
turn_flows books steps scene l depth w v seen (TileTurn tile (Err error)) f m =
    let t = m.step in
    takes_flow scene l w v f tile t.low t.only t.item t.parcel (no_grant (w.tiles tile).progress t.item t.may t.grant)
    (short_tile_flows (client_total scene) (λ c. f.took c tile) (f.heard tile) (w.tiles tile) (v.tiles tile) t.item (f.tiles tile t.low) t.short t.progress)
  where
    no_grant : (p : Progress) (i : Item) → MayLose p i → v.grants tile ≡ w.grants tile → MatchOption (grant_taken i) (v.grants tile ≡ w.grants tile) (λ g. w.grants tile ≡ g ∷ v.grants tile)
    no_grant p Nothing may e = e
    no_grant p (Due d) may e = absurd may
    no_grant p (Granted d) may e = absurd may
    no_grant p NoMore may e = absurd may
    no_grant p (Sent c x) may e = e

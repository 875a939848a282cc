-- A step of a tile's core over lanes that are seen as the model's is a turn of the tile, whether it is short, becomes so, or isn't.
use Rattle.std.proofs.Common.{◌≡◌, ℕ, ◌+◌, ◌<◌, ◌^◌, Bool, true, false, cond, List, [], ◌∷◌, ◌++◌, length, Option, Ok, Err, inl, inr, refl, sym, ap, ◌∙◌, subst, arith, length-append}
use Rattle.std.specs.Prelude.{MatchOption, slice_index_or, Result, Vec}
use Rattle.std.specs.Global.{Global}
use Rattle.std.proofs.lemmas.Bool.{cases_Bool, cases_lt}
use Rattle.std.proofs.Math.ListN.{get_or-append}
use Rattle.std.proofs.Math.Seq.{get_or-append_seam}
use Rattle.rc_base.specs.Cluster.PlainLanes.{held}
use Rattle.rc_base.specs.Cluster.Tiles.{tile_count}
use Rattle.rc_base.specs.Drawing.Images.{Pixels}
use Rattle.rc_base.specs.declared.cluster.TileMoved.{TileMoved}
use Rattle.rc_base.specs.declared.cluster.TilePart.{TilePart}
use Rattle.rc_base.specs.declared.out_of_memory.OutOfMemory.{OutOfMemory}
use Rattle.rc_base.specs.declared.plain_lane.PlainLane.{PlainLane}
use Rattle.rc_base.specs.declared.scene.Decl.{Decl}
use Rattle.rc_base.specs.declared.scene.Scene.{Scene}
use Rattle.rc_base.specs.declared.state.Parcel.{Parcel}
use Rattle.rc_base.specs.declared.sync.Grant.{Grant}
use Rattle.rc_base.specs.declared.window.Layout.{Layout}
use Rattle.order_model.specs.Board.{Board}
use Rattle.order_model.specs.Standing.{Progress}
use Rattle.tile_model.specs.Boards.{IsDrawn}
use Rattle.tile_model.specs.Items.{Item, grant_taken, parcel_taken, shown_frames, with_at}
use Rattle.tile_server.specs.Boards as boards
use Rattle.tile_server.specs.Cores.{board_of, next_of, is_short, IsShown}
use Rattle.tile_server.specs.Deeds.{item_of, answer_of, is_loss, taken_of, granted_of, progress_after, IsFoundEmpty, IsNextDeed, IsUnheard}
use Rattle.tile_server.specs.declared.deed.TileDeed.{TileDeed}
use Rattle.tile_server.specs.declared.tile_core.TileCore.{TileCore}
use Rattle.world_model.specs.Moves.{IsTileMove, OnlyTile}
use Rattle.world_model.specs.Turns.{AreAmple, IsResting, IsShortTileMove, IsStepOf, IsTileLoss, IsTurn}
use Rattle.world_model.specs.Turns.Turn.{TileTurn}
use Rattle.world_model.specs.declared.moves.TileAnswer.{TileAnswer}
use Rattle.world_model.specs.declared.moves.TileAnswer.TheVariants.{Swapped}
use Rattle.world_model.specs.declared.moves.Move.TheVariants.{Tile as TileMove}
use Rattle.world_model.specs.Tiles.{Tile, next_after, parts_after, without_pixels, IsTileStep}
use Rattle.world_model.specs.World.{client_total}
use Rattle.world_model.specs.World.{World as Model}
use Rattle.scene_lemmas.proofs.Numbered.{with_here, with_other}
use Rattle.tile_server.proofs.CoresStand.{awaited}
use Rattle.tile_server.proofs.TilesMeetTheirClause.{same_taken, same_granted}
use Rattle.plain_lemmas.proofs.Numbers.{at_one_or_other}
use Rattle.plain_lemmas.proofs.Booleans.{false_behind}
use Rattle.step_core.specs.Changes.{IsTileStepped, ArePartsKept, with_shown}
use Rattle.step_core.specs.Worlds.{AreShown, IsSeenAs, IsTileOf, IsPartOf, ArePartsOfTile, AreLanesOf, IsLaneOf}
use Rattle.step_core.specs.Settling.{AreSettled, CanSettle}
use Rattle.step_core.specs.Steps.{IsTurned}
use Rattle.step_core.specs.declared.cluster.Cluster.{Cluster}
use Rattle.step_core.specs.declared.port.Port.{Port}
use Rattle.step_core.proofs.Said.{swap_moves}
use Rattle.step_core.proofs.Settled.{can_settle, settled_ports}
use Rattle.step_core.proofs.Fits.{view_fits}
use Rattle.step_core.proofs.Lanes.{rest_of, rest_was, at_item, none_taken, lanes_give, lanes_gave, lanes_empty, lanes_as, lanes_one, lane_gives}
use Rattle.step_core.proofs.ShortDeeds.{answers_short, awaits_short, finds_no_grant_short, finds_no_parcel_short, loses, may_lose, no_grant_lost, no_loss, none_there}
use Rattle.step_core.proofs.TileDeeds.{same_next, is_undue, finds_no_parcel, finds_no_grant, none_granted, answers, shows_or_not, shown_after}

-- ---- the parts that are shown

shown_part : (l : Layout) (tile frame : ℕ) (b : Board) (part : TilePart) → boards.IsPartOf l tile frame b part → IsPartOf l tile frame b.pixel part
shown_part l tile frame b part h = record { tile = h.tile; frame = h.frame; count = h.count; pixel = h.pixel }

one_more : (l : Layout) (tile : ℕ) (pixels : Pixels) (shown : List Pixels) (parts : List TilePart) (part : TilePart) → ArePartsOfTile l tile shown parts
    → (length shown + 1 < 2 ^ 32 → IsPartOf l tile (length shown + 1) pixels part) → ArePartsOfTile l tile (shown ++ pixels ∷ []) (parts ++ part ∷ [])
one_more l tile pixels shown parts part h is = record {
  count = length-append parts (part ∷ []) ∙ ap (λ n. n + 1) h.count ∙ sym (length-append shown (pixels ∷ []));
  at = λ k e d lt few. elim (cases_lt k (length shown)) [
    | inl within ↦ rw (get_or-append shown (pixels ∷ []) e k within, get_or-append parts (part ∷ []) d k (let n = h.count in omega arith))
        (h.at k e d within few)
    | inr past ↦
        let here : k ≡ length shown = (let n = length-append shown (pixels ∷ []) in omega arith) in
        let there : k ≡ length parts = here ∙ sym h.count in
        let few' : length shown + 1 < 2 ^ 32 = subst (λ n. n + 1 < 2 ^ 32) here few in
        let a : slice_index_or (shown ++ pixels ∷ []) k e ≡ pixels = ap (λ n. slice_index_or (shown ++ pixels ∷ []) n e) here
        ∙ get_or-append_seam shown pixels [] e in
        let b : slice_index_or (parts ++ part ∷ []) k d ≡ part = ap (λ n. slice_index_or (parts ++ part ∷ []) n d) there
        ∙ get_or-append_seam parts part [] d in
        subst (λ n. IsPartOf l tile (n + 1) (slice_index_or (shown ++ pixels ∷ []) k e) (slice_index_or (parts ++ part ∷ []) k d)) (sym here)
        (subst (λ (x : Pixels). IsPartOf l tile (length shown + 1) x (slice_index_or (parts ++ part ∷ []) k d)) (sym a)
        (subst (λ (x : TilePart). IsPartOf l tile (length shown + 1) pixels x) (sym b) (is few')))
  ];
}

parts_go_on : (l : Layout) (tile : ℕ) (p : Progress) (b : Board) (shown : List Pixels) (parts parts' : List TilePart) (deed : TileDeed)
    (m : TileMoved)
    → answer_of deed ≡ Ok m → IsNextDeed false p deed → IsShown l tile p b deed → length shown ≡ shown_frames p → parts' ≡ with_shown m parts
    → ArePartsOfTile l tile shown parts → ArePartsOfTile l tile (parts_after (item_of deed) b.pixel shown) parts'
parts_go_on l tile p b shown parts parts' deed m ok next is count kept h = elim (shows_or_not p deed m b.pixel shown parts ok next) [
  | inl s ↦
      subst (λ (x : List Pixels). ArePartsOfTile l tile x parts') (sym s.2)
      (subst (λ (x : List TilePart). ArePartsOfTile l tile (shown ++ b.pixel ∷ []) x) (sym (kept ∙ s.3))
      (one_more l tile b.pixel shown parts s.0 h
      (subst (λ n. n + 1 < 2 ^ 32 → IsPartOf l tile (n + 1) b.pixel s.0) (sym count)
      (λ few. shown_part l tile (shown_frames p + 1) b s.0 (is s.0 s.1 few)))))
  | inr s ↦
      subst (λ (x : List Pixels). ArePartsOfTile l tile x parts') (sym s.0)
      (subst (λ (x : List TilePart). ArePartsOfTile l tile shown x) (sym (kept ∙ s.1)) h)
]

-- ---- the tile and the world after it

-- a tile that is short, or becomes so, keeps its board and parts as they were
abbrev pub tile_after : Bool → Tile → TileDeed → TileCore → Tile
tile_after short a deed core = record {
  progress = progress_after short a.progress deed;
  next = next_after a.next (item_of deed);
  board = cond short a.board (board_of core);
  parts = cond short a.parts (parts_after (item_of deed) a.board.pixel a.parts);
  short = short;
}

abbrev pub later_of : Model → ℕ → TileDeed → TileCore → Model
later_of w tile deed core = record w {
  tiles = with_at w.tiles tile (tile_after (is_short core) (w.tiles tile) deed core);
  parcels = λ client. with_at (w.parcels client) tile (rest_of (taken_of deed client) (w.parcels client tile));
  grants = with_at w.grants tile (rest_of (granted_of deed) (w.grants tile));
}

-- what the step answers
abbrev pub answer_in : Result TileMoved OutOfMemory → Result TileAnswer OutOfMemory
answer_in (Ok m) = Ok (without_pixels m)
answer_in (Err error) = Err error

drawn_at : (decl decl' : Decl) (l l' : Layout) (tile tile' : ℕ) (p : Progress) (item : Item) (b b' now : Board) → decl ≡ decl' → l ≡ l'
    → tile ≡ tile' → b ≡ b'
    → IsDrawn decl l tile p item b now → IsDrawn decl' l' tile' p item b' now
drawn_at decl decl' l l' tile tile' p item b b' now e f g h x =
    subst (λ (y : Decl). IsDrawn y l' tile' p item b' now) e (subst (λ (y : Layout). IsDrawn decl y tile' p item b' now) f
    (subst (λ y. IsDrawn decl l y p item b' now) g (subst (λ (y : Board). IsDrawn decl l tile p item y now) h x)))

shown_at : (l l' : Layout) (tile tile' : ℕ) (p : Progress) (b b' : Board) (deed : TileDeed) → l ≡ l' → tile ≡ tile' → b ≡ b'
    → IsShown l tile p b deed → IsShown l' tile' p b' deed
shown_at l l' tile tile' p b b' deed e f g x =
    subst (λ (y : Layout). IsShown y tile' p b' deed) e (subst (λ y. IsShown l y p b' deed) f (subst (λ (y : Board). IsShown l tile p y deed) g x))

module _ (scene : Scene) (l : Layout) (depth tile : ℕ) (before : Cluster) (w : Model) (r : Result TileMoved OutOfMemory) (tiles : Vec TileCore Global)
    (parcels : Vec (Vec (PlainLane Parcel) Global) Global) (grants : Vec (PlainLane Grant) Global) (v : IsSeenAs scene l depth before w)
    (low : tile < tile_count l)
    (s : IsTileStepped tile r before.tiles.items tiles.items before.parcels.items parcels.items before.grants.items grants.items) where
  abbrev was : Tile
  was = w.tiles tile

  abbrev later : Model
  later = later_of w tile s.deed s.core'

  -- what the view says of the core and its lanes
  core_is : IsTileOf scene l tile was s.core
  core_is = subst (λ (x : TileCore). IsTileOf scene l tile was x) (s.cores_changed.was s.core) (v.tiles.at tile s.core low)

  row_is : AreLanesOf depth (client_total scene) (λ client. w.parcels client tile) s.row.items
  row_is = subst (λ (x : Vec (PlainLane Parcel) Global). AreLanesOf depth (client_total scene) (λ client. w.parcels client tile) x.items)
      (s.rows_changed.was s.row) (v.parcels.at tile s.row low)

  lane_is : IsLaneOf depth (w.grants tile) s.lane
  lane_is = subst (λ (x : PlainLane Grant). IsLaneOf depth (w.grants tile) x) (s.lanes_changed.was s.lane) (v.grants.at tile s.lane low)

  next_is : IsNextDeed (is_short s.core) was.progress s.deed
  next_is = s.step.step.first was.progress core_is.progress

  next_so : (b : Bool) → is_short s.core ≡ b → IsNextDeed b was.progress s.deed
  next_so b e = subst (λ b. IsNextDeed b was.progress s.deed) e next_is

  -- where the core isn't short after the step, it wasn't before
  was_ample : is_short s.core' ≡ false → is_short s.core ≡ false
  was_ample e = false_behind (is_loss s.deed) (is_short s.core) (sym s.step.step.short ∙ e)

  core_after : IsTileOf scene l tile (tile_after (is_short s.core') was s.deed s.core') s.core'
  core_after = record {
    decl = s.step.step.same.decl ∙ core_is.decl;
    clients = s.step.step.same.clients ∙ core_is.clients;
    layout = s.step.step.same.layout ∙ core_is.layout;
    number_of = s.step.step.same.tile ∙ core_is.number_of;
    short = refl;
    progress = s.step.step.after was.progress core_is.progress;
    next = s.step.step.rotation ∙ same_next (next_of s.core) s.deed ∙ ap (λ n. next_after n (item_of s.deed)) core_is.next;
    board = λ ample. rw ample refl;
    shown = λ ample. (let whole = was_ample ample in
        rw ample (shown_after was.progress (item_of s.deed) was.board.pixel was.parts (awaited was.progress s.deed (next_so false whole)) (core_is.shown (sym core_is.short ∙ whole))));
  }

  row_after : AreLanesOf depth (client_total scene) (λ client. rest_of (taken_of s.deed client) (w.parcels client tile)) s.row'.items
  row_after = lanes_give depth (client_total scene) (λ client. w.parcels client tile) s.row.items s.row'.items row_is s.step.row_depths
      (taken_of s.deed) s.step.taken

  row_now : (d : Vec (PlainLane Parcel) Global) → AreLanesOf depth (client_total scene) (λ client. later.parcels client tile) (slice_index_or parcels.items tile d).items
  row_now d = subst (λ (x : Vec (PlainLane Parcel) Global). AreLanesOf depth (client_total scene) (λ client. later.parcels client tile) x.items)
      (sym (s.rows_changed.is d))
      (lanes_as depth (client_total scene) _ (λ client. later.parcels client tile) s.row'.items (λ client low. with_here (w.parcels client) tile _) row_after)

  -- the ports to the tile may be settled
  pub settles : (d : Vec (PlainLane Parcel) Global) → CanSettle tile before.ports.items (slice_index_or parcels.items tile d).items
  settles d = can_settle depth (client_total scene) (tile_count l) tile w.parcels later.parcels before.ports.items
      (slice_index_or parcels.items tile d).items low v.ports (row_now d)

  -- ---- the turn

  tile_now : (b : Bool) → is_short s.core' ≡ b → later.tiles tile ≡ tile_after b was s.deed s.core'
  tile_now b e = with_here w.tiles tile (tile_after (is_short s.core') was s.deed s.core') ∙ ap (λ b. tile_after b was s.deed s.core') e

  only_tile : OnlyTile scene l w tile later
  only_tile = record {
    clients = λ client low. refl;
    manager = refl;
    tiles = λ i lt ne. with_other w.tiles tile _ i ne;
    parcels = λ client i low lt ne. with_other (w.parcels client) tile _ i ne;
    requests = λ client low. refl;
    grants = λ i lt ne. with_other w.grants tile _ i ne;
  }

  parcel_now : (client : ℕ) → client < client_total scene
      → MatchOption (parcel_taken (item_of s.deed) client) (later.parcels client tile ≡ w.parcels client tile)
      (λ p. w.parcels client tile ≡ p ∷ later.parcels client tile)
  parcel_now client low_client =
      subst (λ (o : Option Parcel). MatchOption o (later.parcels client tile ≡ w.parcels client tile)
      (λ p. w.parcels client tile ≡ p ∷ later.parcels client tile)) (same_taken s.deed client)
      (subst (λ (x : List Parcel). MatchOption (taken_of s.deed client) (x ≡ w.parcels client tile) (λ p. w.parcels client tile ≡ p ∷ x))
      (sym (with_here (w.parcels client) tile _))
      (lanes_gave depth (client_total scene) (λ i. w.parcels i tile) s.row.items s.row'.items row_is s.step.row_depths (taken_of s.deed)
      s.step.taken client low_client))

  no_parcel_there : (b : Bool) → is_short s.core ≡ b → (client : ℕ) → client < client_total scene
      → IsFoundEmpty b was.progress (next_of s.core) s.deed client → w.parcels client tile ≡ []
  no_parcel_there b e client low_client found =
      lanes_empty depth (client_total scene) (λ i. w.parcels i tile) s.row.items s.row'.items row_is s.step.row_depths (taken_of s.deed)
      s.step.taken client low_client
      (none_there b was.progress (next_of s.core) s.deed client found)
      (λ d. ((s.step.empty was.progress core_is.progress).at client d (let e = row_is.count in omega (arith, e, low_client))
      (subst (λ b. IsFoundEmpty b was.progress (next_of s.core) s.deed client) (sym e) found)).1)

  grant_gave : MatchOption (granted_of s.deed) (rest_of (granted_of s.deed) (w.grants tile) ≡ w.grants tile) (λ g. w.grants tile ≡ g ∷ rest_of (granted_of s.deed) (w.grants tile))
  grant_gave = rest_was (granted_of s.deed) (w.grants tile) (held s.lane')
      (at_item (granted_of s.deed) (w.grants tile) (held s.lane) (held s.lane') lane_is.holds s.step.heard)

  grant_now : MatchOption (grant_taken (item_of s.deed)) (later.grants tile ≡ w.grants tile) (λ g. w.grants tile ≡ g ∷ later.grants tile)
  grant_now = subst (λ (o : Option Grant). MatchOption o (later.grants tile ≡ w.grants tile) (λ g. w.grants tile ≡ g ∷ later.grants tile))
      (same_granted s.deed)
      (subst (λ (x : List Grant). MatchOption (granted_of s.deed) (x ≡ w.grants tile) (λ g. w.grants tile ≡ g ∷ x))
      (sym (with_here w.grants tile _)) grant_gave)

  no_grant_there : (b : Bool) → is_short s.core ≡ b → IsUnheard b was.progress s.deed → w.grants tile ≡ []
  no_grant_there b e unheard =
      let bare = (s.step.unheard was.progress core_is.progress (subst (λ b. IsUnheard b was.progress s.deed) (sym e) unheard)).1 in
      sym (none_taken (granted_of s.deed) (w.grants tile) (held s.lane') (none_granted b was.progress s.deed unheard)
      (at_item (granted_of s.deed) (w.grants tile) (held s.lane) (held s.lane') lane_is.holds s.step.heard)) ∙ bare

  -- a tile that isn't short
  tile_moves : (m : TileMoved) → answer_of s.deed ≡ Ok m → is_short s.core ≡ false → IsTileMove scene l depth w tile (without_pixels m) later
  tile_moves m answered ample =
      let next = next_so false ample in
      let whole : is_short s.core' ≡ false = s.step.step.short ∙ ap (λ b. cond b true (is_short s.core)) (no_loss s.deed m answered) ∙ ample in
      let board = core_is.board (sym core_is.short ∙ ample) in
      let step : IsTileStep scene.decl l tile (item_of s.deed) was (tile_after false was s.deed s.core') = record {
        ample = sym core_is.short ∙ ample;
        still_ample = sym ample ∙ core_is.short;
        awaited = awaited was.progress s.deed next;
        undue = is_undue was.progress s.deed m answered next;
        progress = refl;
        next = refl;
        board = drawn_at _ _ _ _ _ _ was.progress (item_of s.deed) _ _ (board_of s.core') core_is.decl core_is.layout core_is.number_of board
            (s.step.step.drawn was.progress core_is.progress whole);
        parts = refl;
      } in
      record {
        low = low;
        item = item_of s.deed;
        answered = answers was.progress s.deed m answered next;
        step = subst (λ (x : Tile). IsTileStep scene.decl l tile (item_of s.deed) was x) (sym (tile_now false whole)) step;
        parcel = parcel_now;
        no_parcel = λ client low_client found.
            no_parcel_there false ample client low_client (finds_no_parcel was (next_of s.core) s.deed m client core_is.next answered found);
        grant = grant_now;
        no_grant = λ found. no_grant_there false ample (finds_no_grant was.progress s.deed m answered found);
        only = only_tile;
      }

  -- one that is
  tile_drops : (m : TileMoved) → answer_of s.deed ≡ Ok m → is_short s.core ≡ true → IsShortTileMove scene l depth w tile (without_pixels m) later
  tile_drops m answered short =
      let next = next_so true short in
      let kept = no_loss s.deed m answered in
      let still : is_short s.core' ≡ true = s.step.step.short ∙ ap (λ b. cond b true (is_short s.core)) kept ∙ short in
      let now = tile_now true still in
      record {
        low = low;
        short = sym core_is.short ∙ short;
        still_short = ap (λ (x : Tile). x.short) now;
        item = item_of s.deed;
        answered = answers_short was.progress s.deed m answered next;
        awaited = awaits_short was.progress s.deed kept next;
        progress = ap (λ (x : Tile). x.progress) now;
        next = ap (λ (x : Tile). x.next) now;
        board = ap (λ (x : Tile). x.board) now;
        parts = ap (λ (x : Tile). x.parts) now;
        parcel = parcel_now;
        no_parcel = λ client low_client found.
            no_parcel_there true short client low_client (finds_no_parcel_short was (next_of s.core) s.deed m client core_is.next answered found);
        grant = grant_now;
        no_grant = λ found. no_grant_there true short (finds_no_grant_short was.progress s.deed m answered found);
        only = only_tile;
      }

  -- and one that becomes short
  tile_loses : (e : OutOfMemory) → answer_of s.deed ≡ Err e → IsTileLoss scene l depth w tile later
  tile_loses e answered =
      let loss = loses s.deed e answered in
      let ample = s.step.step.ample loss in
      let next = next_so false ample in
      let now = tile_now true (s.step.step.short ∙ ap (λ b. cond b true (is_short s.core)) loss) in
      let none = no_grant_lost was.progress s.deed loss next in
      record {
        low = low;
        ample = sym core_is.short ∙ ample;
        short = ap (λ (x : Tile). x.short) now;
        item = item_of s.deed;
        may = may_lose was.progress s.deed loss next;
        progress = ap (λ (x : Tile). x.progress) now;
        next = ap (λ (x : Tile). x.next) now;
        parcel = parcel_now;
        grant = with_here w.grants tile _ ∙ ap (λ (o : Option Grant). rest_of o (w.grants tile)) none;
        only = only_tile;
      }

  turn_by : (r : Result TileMoved OutOfMemory) → answer_of s.deed ≡ r → IsStepOf scene l depth w (TileTurn tile (answer_in r)) later
  turn_by (Ok m) answered = elim (cases_Bool (is_short s.core)) [
    | inl short ↦ inr (tile_drops m answered short)
    | inr ample ↦ inl (tile_moves m answered ample)
  ]
  turn_by (Err e) answered = tile_loses e answered

  module _ (ports : Vec (Vec Port Global) Global) (parts : Vec (Vec TilePart Global) Global) (lanes : List (PlainLane Parcel))
      (lanes_are : (d : Vec (PlainLane Parcel) Global) → lanes ≡ (slice_index_or parcels.items tile d).items)
      (settled : AreSettled tile before.ports.items ports.items lanes) (count : length parts.items ≡ length before.parts.items) where
    abbrev after : Cluster
    after = record before { tiles = tiles; parcels = parcels; grants = grants; parts = parts; ports = ports }

    view_after : IsSeenAs scene l depth after later
    view_after = record {
      clients = v.clients;
      manager = v.manager;
      tiles = record {
        count = s.cores_changed.count ∙ v.tiles.count;
        at = at_one_or_other (λ i. (d : TileCore) → i < tile_count l → IsTileOf scene l i (later.tiles i) (slice_index_or tiles.items i d)) tile
            (λ d lt. subst (λ (x : Tile). IsTileOf scene l tile x (slice_index_or tiles.items tile d))
            (sym (with_here w.tiles tile (tile_after (is_short s.core') was s.deed s.core')))
            (subst (λ (x : TileCore). IsTileOf scene l tile (tile_after (is_short s.core') was s.deed s.core') x) (sym (s.cores_changed.is d)) core_after))
            (λ i ne d lt. subst (λ (x : Tile). IsTileOf scene l i x (slice_index_or tiles.items i d))
            (sym (with_other w.tiles tile (tile_after (is_short s.core') was s.deed s.core') i ne))
            (subst (λ (x : TileCore). IsTileOf scene l i (w.tiles i) x) (sym (s.cores_changed.others i d ne)) (v.tiles.at i d lt)));
      };
      parcels = record {
        count = s.rows_changed.count ∙ v.parcels.count;
        at = at_one_or_other (λ i. (d : Vec (PlainLane Parcel) Global) → i < tile_count l
            → AreLanesOf depth (client_total scene) (λ client. later.parcels client i) (slice_index_or parcels.items i d).items) tile
            (λ d lt. row_now d)
            (λ i ne d lt. subst (λ (x : Vec (PlainLane Parcel) Global). AreLanesOf depth (client_total scene) (λ client. later.parcels client i)
            x.items) (sym (s.rows_changed.others i d ne))
            (lanes_as depth (client_total scene) (λ client. w.parcels client i) (λ client. later.parcels client i)
            (slice_index_or before.parcels.items i d).items
            (λ client low. with_other (w.parcels client) tile _ i ne) (v.parcels.at i d lt)));
      };
      ports = settled_ports depth (client_total scene) (tile_count l) tile w.parcels later.parcels before.ports.items lanes low v.ports
          (subst (λ xs. AreLanesOf depth (client_total scene) (λ client. later.parcels client tile) xs) (sym (lanes_are s.row)) (row_now s.row))
          ports.items settled (λ client t lt ne. with_other (w.parcels client) tile _ t ne);
      requests = v.requests;
      grants = lanes_one depth (tile_count l) tile w.grants (rest_of (granted_of s.deed) (w.grants tile)) s.lane s.lane' before.grants.items
          grants.items v.grants s.lanes_changed
          (lane_gives depth (granted_of s.deed) (w.grants tile) s.lane s.lane' lane_is s.step.lane_depth s.step.heard);
      lists = count ∙ v.lists;
    }

    turned : IsTurn scene l depth w (TileTurn tile (answer_in r)) later
    turned = record { step = turn_by r s.answered; fit = view_fits scene l depth after later view_after }

    -- ---- the parts

    parts_after_it : (m : TileMoved) → answer_of s.deed ≡ Ok m → AreAmple scene l w → AreShown scene l w.tiles before.parts.items
        → ArePartsKept tile m before.parts.items parts.items → AreShown scene l later.tiles parts.items
    parts_after_it m answered all shown kept =
        let ample : is_short s.core ≡ false = core_is.short ∙ all.tiles tile low in
        let whole : is_short s.core' ≡ false = s.step.step.short ∙ ap (λ b. cond b true (is_short s.core)) (no_loss s.deed m answered) ∙ ample in
        let board = core_is.board (sym core_is.short ∙ ample) in
        let here : (d : Vec TilePart Global) → ArePartsOfTile l tile (parts_after (item_of s.deed) was.board.pixel was.parts) (slice_index_or parts.items tile d).items =
        λ d. parts_go_on l tile was.progress was.board was.parts (slice_index_or before.parts.items tile d).items (slice_index_or parts.items tile d).items
        s.deed m answered (next_so false ample)
        (shown_at _ _ _ _ was.progress _ _ s.deed core_is.layout core_is.number_of board (s.step.step.shown was.progress core_is.progress))
        (core_is.shown (sym core_is.short ∙ ample)) (kept.here d) (shown.at tile d low) in
        record {
          count = kept.count ∙ shown.count;
          at = at_one_or_other (λ i. (d : Vec TilePart Global) → i < tile_count l
              → ArePartsOfTile l i ((later.tiles i).parts) (slice_index_or parts.items i d).items) tile
              (λ d lt. subst (λ (x : Tile). ArePartsOfTile l tile x.parts (slice_index_or parts.items tile d).items) (sym (tile_now false whole)) (here d))
              (λ i ne d lt. subst (λ (x : Tile). ArePartsOfTile l i x.parts (slice_index_or parts.items i d).items)
              (sym (with_other w.tiles tile (tile_after (is_short s.core') was s.deed s.core') i ne))
              (subst (λ (x : Vec TilePart Global). ArePartsOfTile l i (w.tiles i).parts x.items) (sym (kept.others i d ne)) (shown.at i d lt)));
        }

    -- ---- what the step answers

    abbrev number : ℕ
    number = client_total scene + 1 + tile

    pub tile_steps : (m : TileMoved) → r ≡ Ok m → ArePartsKept tile m before.parts.items parts.items
        → IsTurned scene l depth number w (Ok (TileMove tile (without_pixels m))) before after
    tile_steps m is kept = record {
      turn = TileTurn tile (answer_in r);
      later = later;
      turned = turned;
      actor = refl;
      tells = ap (λ (r : Result TileMoved OutOfMemory). TileTurn tile (answer_in r)) is;
      view = view_after;
      parts = λ all shown. parts_after_it m (s.answered ∙ is) all shown kept;
    }

    -- there is no memory to keep the part
    pub tile_lets_go : (m : TileMoved) (e : OutOfMemory) → r ≡ Ok m → without_pixels m ≡ Swapped → IsTurned scene l depth number w (Err e) before after
    tile_lets_go m e is swap = record {
      turn = TileTurn tile (answer_in r);
      later = later;
      turned = turned;
      actor = refl;
      tells = λ rest. swap_moves tile (subst (λ (a : TileAnswer). IsResting (TileTurn tile (Ok a))) swap
          (subst (λ (r : Result TileMoved OutOfMemory). IsResting (TileTurn tile (answer_in r))) is rest));
      view = view_after;
      parts = tt;
    }

    pub tile_lacks : (e : OutOfMemory) → r ≡ Err e → IsTurned scene l depth number w (Err e) before after
    tile_lacks e is = record {
      turn = TileTurn tile (answer_in r);
      later = later;
      turned = turned;
      actor = refl;
      tells = λ rest. subst (λ (r : Result TileMoved OutOfMemory). IsResting (TileTurn tile (answer_in r))) is rest;
      view = view_after;
      parts = tt;
    }

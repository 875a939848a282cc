-- The moves of the stepped cluster: an actor's step, what it takes of its lanes and appends to them, and its answer. An actor looks at its lanes before it moves; what it
-- saw of them, empty or full, is what they hold in the stepped cluster, and may be past where actors run at once.
use Rattle.std.specs.Prelude.{◌≡◌, ◌≢◌, ℕ, ◌<◌, List, [], ◌∷◌, ◌++◌, length, ◌⊎◌, Result, Ok, MatchOption}
use Rattle.rc_base.specs.Cluster.Looks.{looks_at}
use Rattle.rc_base.specs.Cluster.Sending.{Sending, ToTile, ToManager}
use Rattle.rc_base.specs.Cluster.Tiles.{tile_count}
use Rattle.rc_base.specs.Orders.Sync.{sync_lists_of}
use Rattle.rc_base.specs.declared.cluster.ClientMoved.{ClientMoved}
use Rattle.rc_base.specs.declared.cluster.ClientMoved.TheVariants as client_moved
use Rattle.rc_base.specs.declared.cluster.ManagerMoved.{ManagerMoved}
use Rattle.rc_base.specs.declared.cluster.ManagerMoved.TheVariants as manager_moved
use Rattle.rc_base.specs.declared.out_of_memory.OutOfMemory.{OutOfMemory}
use Rattle.rc_base.specs.declared.scene.Scene.{Scene}
use Rattle.rc_base.specs.declared.state.Parcel.{Parcel}
use Rattle.rc_base.specs.declared.sync.Request.{Request}
use Rattle.rc_base.specs.declared.window.Layout.{Layout}
use Rattle.client_issue.specs.Cores.{tally_after}
use Rattle.client_issue.specs.Turns.{IsParcelSent, IsRequestSent, IsNothingSent}
use Rattle.sync_manager.specs.Progress.{IsNextDeed, progress_after, answer_of, taken_of, sent_to, IsFoundFull, IsFoundEmpty}
use Rattle.sync_manager.specs.declared.deed.ManagerDeed.{ManagerDeed}
use Rattle.tile_model.specs.Items.{Item, parcel_taken, grant_taken}
use Rattle.world_model.specs.declared.moves.TileAnswer.{TileAnswer}
use Rattle.world_model.specs.declared.moves.Move.{Move}
use Rattle.world_model.specs.declared.moves.Move.TheVariants.{Client as ClientMove, Manager as ManagerMove, Tile as TileMove}
use Rattle.world_model.specs.Tiles.{IsTileStep, FindsNoGrant, FindsNoParcel, IsTileAnswer}
use Rattle.world_model.specs.declared.moves.TileAnswer.TheVariants.{Blocked, Ended}
use Rattle.world_model.specs.World.{World, Lanes, all_lanes, lanes_of, client_total, LanesFit}

-- ---- a client

-- the client's tallies are as they were
abbrev pub AreTalliesKept : World → ℕ → World → Type 0
AreTalliesKept w client later = (tile : ℕ) → (later.clients client).tallies tile ≡ (w.clients client).tallies tile

-- the next item goes to the manager
pub record IsRequested (w : World) (client : ℕ) (later : World) : Type 0 where
  pub sent : IsRequestSent (lanes_of w client) (lanes_of later client)
  pub tallies : AreTalliesKept w client later

-- nothing is sent
pub record IsIdle (w : World) (client : ℕ) (later : World) : Type 0 where
  pub sent : IsNothingSent (lanes_of w client) (lanes_of later client)
  pub tallies : AreTalliesKept w client later

module _ (scene : Scene) (l : Layout) (depth : ℕ) where
  -- the next item goes to a tile's lane, and counts in the tile's tally
  pub record IsAppended (w : World) (client tile : ℕ) (later : World) : Type 0 where
    pub low : tile < tile_count l
    pub sent : IsParcelSent (lanes_of w client) (lanes_of later client) tile
    pub tallied : (later.clients client).tallies tile ≡ tally_after ((w.clients client).tallies tile) sent.parcel (looks_at scene l client tile sent.parcel.place)
    pub others : (other : ℕ) → other ≢ tile → (later.clients client).tallies other ≡ (w.clients client).tallies other

  -- the next item is for a tile whose lane was full
  pub record IsBlockedTile (w : World) (seen : Lanes) (client tile : ℕ) (later : World) : Type 0 where
    pub low : tile < tile_count l
    pub parcel : Parcel
    pub rest : List Sending
    pub next : (w.clients client).left ≡ ToTile tile parcel ∷ rest
    pub full : length (seen.parcels client tile) ≡ depth
    pub idle : IsIdle w client later

  -- the next item is for the manager, and the lane was full
  pub record IsBlockedRequest (w : World) (seen : Lanes) (client : ℕ) (later : World) : Type 0 where
    pub request : Request
    pub rest : List Sending
    pub next : (w.clients client).left ≡ ToManager request ∷ rest
    pub full : length (seen.requests client) ≡ depth
    pub idle : IsIdle w client later

  abbrev pub IsClientStepSeeing : World → Lanes → ℕ → ClientMoved → World → Type 0
  IsClientStepSeeing w seen client (client_moved.Appended tile) later = IsAppended w client tile later
  IsClientStepSeeing w seen client client_moved.Requested later = IsRequested w client later
  IsClientStepSeeing w seen client (client_moved.BlockedTile tile) later = IsBlockedTile w seen client tile later
  IsClientStepSeeing w seen client client_moved.BlockedRequest later = IsBlockedRequest w seen client later
  IsClientStepSeeing w seen client client_moved.Ended later = ((w.clients client).left ≡ []) × IsIdle w client later

  abbrev pub IsClientStep : World → ℕ → ClientMoved → World → Type 0
  IsClientStep w client answer later = IsClientStepSeeing w (all_lanes w) client answer later

-- ---- what a move leaves as it was

module _ (scene : Scene) (l : Layout) where
  -- nothing but the client and its own lanes changes
  pub record OnlyClient (w : World) (client : ℕ) (later : World) : Type 0 where
    pub clients : (i : ℕ) → i < client_total scene → i ≢ client → later.clients i ≡ w.clients i
    pub manager : later.manager ≡ w.manager
    pub tiles : (tile : ℕ) → tile < tile_count l → later.tiles tile ≡ w.tiles tile
    pub parcels : (i tile : ℕ) → i < client_total scene → tile < tile_count l → i ≢ client → later.parcels i tile ≡ w.parcels i tile
    pub requests : (i : ℕ) → i < client_total scene → i ≢ client → later.requests i ≡ w.requests i
    pub grants : (tile : ℕ) → tile < tile_count l → later.grants tile ≡ w.grants tile

  -- nothing but the manager and its lanes
  pub record OnlyManager (w later : World) : Type 0 where
    pub clients : (client : ℕ) → client < client_total scene → later.clients client ≡ w.clients client
    pub tiles : (tile : ℕ) → tile < tile_count l → later.tiles tile ≡ w.tiles tile
    pub parcels : (client tile : ℕ) → client < client_total scene → tile < tile_count l → later.parcels client tile ≡ w.parcels client tile

  -- nothing but the tile and its own lanes
  pub record OnlyTile (w : World) (tile : ℕ) (later : World) : Type 0 where
    pub clients : (client : ℕ) → client < client_total scene → later.clients client ≡ w.clients client
    pub manager : later.manager ≡ w.manager
    pub tiles : (i : ℕ) → i < tile_count l → i ≢ tile → later.tiles i ≡ w.tiles i
    pub parcels : (client i : ℕ) → client < client_total scene → i < tile_count l → i ≢ tile → later.parcels client i ≡ w.parcels client i
    pub requests : (client : ℕ) → client < client_total scene → later.requests client ≡ w.requests client
    pub grants : (i : ℕ) → i < tile_count l → i ≢ tile → later.grants i ≡ w.grants i

-- ---- moves

module _ (scene : Scene) (l : Layout) (depth : ℕ) where
  -- The client sends the next item of its sequence, unless its lane was full.
  pub record IsClientMoveSeeing (w : World) (seen : Lanes) (client : ℕ) (answer : ClientMoved) (later : World) : Type 0 where
    pub low : client < client_total scene
    pub step : IsClientStepSeeing scene l depth w seen client answer later
    pub short : (later.clients client).short ≡ (w.clients client).short
    pub only : OnlyClient scene l w client later

  abbrev pub IsClientMove : World → ℕ → ClientMoved → World → Type 0
  IsClientMove w client answer later = IsClientMoveSeeing w (all_lanes w) client answer later

  -- The manager does what comes first, and takes and appends just that. A lane that it tried before was empty, and one that it is blocked at full.
  pub record IsManagerStepSeeing (w : World) (seen : Lanes) (answer : Result ManagerMoved OutOfMemory) (later : World) : Type 0 where
    pub deed : ManagerDeed
    pub answered : answer_of deed ≡ answer
    pub next : IsNextDeed (sync_lists_of scene) (tile_count l) w.manager deed
    pub manager : later.manager ≡ progress_after (sync_lists_of scene) w.manager deed
    pub taken : (client : ℕ) → client < client_total scene
        → MatchOption (taken_of deed client) (later.requests client ≡ w.requests client) (λ r. w.requests client ≡ r ∷ later.requests client)
    pub empty : (client : ℕ) → client < client_total scene → IsFoundEmpty (sync_lists_of scene) w.manager deed client → seen.requests client ≡ []
    pub sent : (tile : ℕ) → tile < tile_count l → later.grants tile ≡ w.grants tile ++ sent_to deed tile
    pub full : (tile : ℕ) → tile < tile_count l → IsFoundFull deed tile → length (seen.grants tile) ≡ depth
    pub only : OnlyManager scene l w later

  abbrev pub IsManagerStep : World → Result ManagerMoved OutOfMemory → World → Type 0
  IsManagerStep w answer later = IsManagerStepSeeing w (all_lanes w) answer later

  abbrev pub IsManagerMove : World → ManagerMoved → World → Type 0
  IsManagerMove w answer later = IsManagerStep w (Ok answer) later

  -- The tile does its step with the item that comes first, which comes from its lane. A lane that it tried before was empty.
  pub record IsTileMoveSeeing (w : World) (seen : Lanes) (tile : ℕ) (answer : TileAnswer) (later : World) : Type 0 where
    pub low : tile < tile_count l
    pub item : Item
    pub answered : IsTileAnswer (w.tiles tile).progress item answer
    pub step : IsTileStep scene.decl l tile item (w.tiles tile) (later.tiles tile)
    pub parcel : (client : ℕ) → client < client_total scene
        → MatchOption (parcel_taken item client) (later.parcels client tile ≡ w.parcels client tile)
        (λ p. w.parcels client tile ≡ p ∷ later.parcels client tile)
    pub no_parcel : (client : ℕ) → client < client_total scene → FindsNoParcel (w.tiles tile) item client → seen.parcels client tile ≡ []
    pub grant : MatchOption (grant_taken item) (later.grants tile ≡ w.grants tile) (λ g. w.grants tile ≡ g ∷ later.grants tile)
    pub no_grant : FindsNoGrant (w.tiles tile).progress item → seen.grants tile ≡ []
    pub only : OnlyTile scene l w tile later

  abbrev pub IsTileMove : World → ℕ → TileAnswer → World → Type 0
  IsTileMove w tile answer later = IsTileMoveSeeing w (all_lanes w) tile answer later

  abbrev pub IsStepOf : World → Move → World → Type 0
  IsStepOf w (ClientMove client answer) later = IsClientMove w client answer later
  IsStepOf w (ManagerMove answer) later = IsManagerMove w answer later
  IsStepOf w (TileMove tile answer) later = IsTileMove w tile answer later

  -- no move appends to a lane that is full
  pub record IsMove (w : World) (move : Move) (later : World) : Type 0 where
    pub step : IsStepOf w move later
    pub fit : LanesFit scene l depth later

  -- moves one after the other
  abbrev pub AreMoves : World → List Move → World → Type 0
  AreMoves w [] later = later ≡ w
  AreMoves w (move ∷ moves) later = (v : World) × IsMove w move v × AreMoves v moves later

-- ---- moves that move nothing

-- the actor is blocked, or has ended
abbrev pub IsAtRest : Move → Type 0
IsAtRest (ClientMove client answer) =
    ((tile : ℕ) × (answer ≡ client_moved.BlockedTile tile)) ⊎ ((answer ≡ client_moved.BlockedRequest) ⊎ (answer ≡ client_moved.Ended))
IsAtRest (ManagerMove answer) =
    ((tile : ℕ) × (answer ≡ manager_moved.BlockedGrant tile)) ⊎ ((answer ≡ manager_moved.BlockedRequest) ⊎ (answer ≡ manager_moved.Ended))
IsAtRest (TileMove tile answer) = (answer ≡ Blocked) ⊎ (answer ≡ Ended)

-- the actor has nothing left to do
abbrev pub IsLast : Move → Type 0
IsLast (ClientMove client answer) = answer ≡ client_moved.Ended
IsLast (ManagerMove answer) = answer ≡ manager_moved.Ended
IsLast (TileMove tile answer) = answer ≡ Ended

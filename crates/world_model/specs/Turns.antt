-- The steps of actors of which any may be short, or become so: an actor's step, what it takes of its lanes and appends to them, and its answer.
use Rattle.std.specs.Prelude.{◌≡◌, ℕ, ◌+◌, ◌<◌, true, false, List, [], ◌∷◌, ◌++◌, ◌⊎◌, Result, Ok, Err, MatchOption}
use Rattle.rc_base.specs.Cluster.Sending.{Sending, sent_last}
use Rattle.rc_base.specs.Cluster.Tiles.{tile_count}
use Rattle.rc_base.specs.Orders.Sync.{sync_lists_of}
use Rattle.rc_base.specs.declared.cluster.ClientMoved.{ClientMoved}
use Rattle.rc_base.specs.declared.cluster.ManagerMoved.{ManagerMoved}
use Rattle.rc_base.specs.declared.out_of_memory.OutOfMemory.{OutOfMemory}
use Rattle.rc_base.specs.declared.scene.Scene.{Scene}
use Rattle.rc_base.specs.declared.window.Layout.{Layout}
use Rattle.sync_manager.specs.Progress.{IsNextDeed}
use Rattle.sync_manager.specs.declared.deed.ManagerDeed.TheVariants.{Finishes}
use Rattle.tile_model.specs.Items.{Item, parcel_taken, grant_taken}
use Rattle.tile_model.specs.Short.{after_lost, IsFinished}
use Rattle.world_model.specs.declared.moves.Move.{Move}
use Rattle.world_model.specs.declared.moves.Move.TheVariants.{Client as ClientMove, Manager as ManagerMove, Tile as TileMove}
use Rattle.world_model.specs.declared.moves.TileAnswer.{TileAnswer}
use Rattle.world_model.specs.Moves.{IsAtRest, IsLast, OnlyClient, OnlyTile, IsClientMoveSeeing, IsManagerStepSeeing, IsTileMoveSeeing}
use Rattle.world_model.specs.Short.{IsAwaitedShort, IsShortAnswer, FindsNoGrantShort, FindsNoParcelShort, MayLose}
use Rattle.world_model.specs.Tiles.{next_after}
use Rattle.world_model.specs.World.{World, Lanes, all_lanes, client_total, LanesFit}

-- an actor's step, by its answer; where memory lacks in it, its actor is short from then on
pub data Turn : Type 0 where
  ClientTurn : (client : ℕ) (answer : Result ClientMoved OutOfMemory) → Turn
  ManagerTurn : (answer : Result ManagerMoved OutOfMemory) → Turn
  TileTurn : (tile : ℕ) (answer : Result TileAnswer OutOfMemory) → Turn

module _ (scene : Scene) (l : Layout) (depth : ℕ) where
  -- Memory lacks in a client's step: of what it had still to send, its End parcels and its End request are left. None of them was sent before.
  pub record IsClientLoss (w : World) (client : ℕ) (later : World) : Type 0 where
    pub low : client < client_total scene
    pub ample : (w.clients client).short ≡ false
    pub short : (later.clients client).short ≡ true
    pub dropped : List Sending
    pub before : (w.clients client).left ≡ dropped ++ sent_last scene l client
    pub left : (later.clients client).left ≡ sent_last scene l client
    pub parcels : (tile : ℕ) → tile < tile_count l → later.parcels client tile ≡ w.parcels client tile
    pub requests : later.requests client ≡ w.requests client
    pub only : OnlyClient scene l w client later

  -- A step of a tile that is short: what it takes is dropped.
  pub record IsShortTileMoveSeeing (w : World) (seen : Lanes) (tile : ℕ) (answer : TileAnswer) (later : World) : Type 0 where
    pub low : tile < tile_count l
    pub short : (w.tiles tile).short ≡ true
    pub still_short : (later.tiles tile).short ≡ true
    pub item : Item
    pub answered : IsShortAnswer (w.tiles tile).progress item answer
    pub awaited : IsAwaitedShort (w.tiles tile).progress item
    pub progress : (later.tiles tile).progress ≡ after_lost (w.tiles tile).progress item
    pub next : (later.tiles tile).next ≡ next_after (w.tiles tile).next item
    pub board : (later.tiles tile).board ≡ (w.tiles tile).board
    pub parts : (later.tiles tile).parts ≡ (w.tiles tile).parts
    pub parcel : (client : ℕ) → client < client_total scene
        → MatchOption (parcel_taken item client) (later.parcels client tile ≡ w.parcels client tile)
        (λ p. w.parcels client tile ≡ p ∷ later.parcels client tile)
    pub no_parcel : (client : ℕ) → client < client_total scene → FindsNoParcelShort (w.tiles tile) item client → seen.parcels client tile ≡ []
    pub grant : MatchOption (grant_taken item) (later.grants tile ≡ w.grants tile) (λ g. w.grants tile ≡ g ∷ later.grants tile)
    pub no_grant : FindsNoGrantShort (w.tiles tile).progress item → seen.grants tile ≡ []
    pub only : OnlyTile scene l w tile later

  abbrev pub IsShortTileMove : World → ℕ → TileAnswer → World → Type 0
  IsShortTileMove w tile answer later = IsShortTileMoveSeeing w (all_lanes w) tile answer later

  -- Memory lacks in a tile's step: it is short from then on, and what it took is dropped.
  pub record IsTileLoss (w : World) (tile : ℕ) (later : World) : Type 0 where
    pub low : tile < tile_count l
    pub ample : (w.tiles tile).short ≡ false
    pub short : (later.tiles tile).short ≡ true
    pub item : Item
    pub may : MayLose (w.tiles tile).progress item
    pub progress : (later.tiles tile).progress ≡ after_lost (w.tiles tile).progress item
    pub next : (later.tiles tile).next ≡ next_after (w.tiles tile).next item
    pub parcel : (client : ℕ) → client < client_total scene
        → MatchOption (parcel_taken item client) (later.parcels client tile ≡ w.parcels client tile)
        (λ p. w.parcels client tile ≡ p ∷ later.parcels client tile)
    pub grant : later.grants tile ≡ w.grants tile
    pub only : OnlyTile scene l w tile later

  abbrev pub IsStepSeeing : World → Lanes → Turn → World → Type 0
  IsStepSeeing w seen (ClientTurn client (Ok answer)) later = IsClientMoveSeeing scene l depth w seen client answer later
  IsStepSeeing w seen (ClientTurn client (Err error)) later = IsClientLoss w client later
  IsStepSeeing w seen (ManagerTurn answer) later = IsManagerStepSeeing scene l depth w seen answer later
  IsStepSeeing w seen (TileTurn tile (Ok answer)) later = IsTileMoveSeeing scene l depth w seen tile answer later ⊎ IsShortTileMoveSeeing w seen tile answer later
  IsStepSeeing w seen (TileTurn tile (Err error)) later = IsTileLoss w tile later

  abbrev pub IsStepOf : World → Turn → World → Type 0
  IsStepOf w turn later = IsStepSeeing w (all_lanes w) turn later

  -- A turn of an actor that saw this of its lanes. No turn appends to a lane that is full.
  pub record IsTurnSeeing (w : World) (seen : Lanes) (turn : Turn) (later : World) : Type 0 where
    pub step : IsStepSeeing w seen turn later
    pub fit : LanesFit scene l depth later

  -- it saw its lanes as they stand
  abbrev pub IsTurn : World → Turn → World → Type 0
  IsTurn w turn later = IsTurnSeeing w (all_lanes w) turn later

  -- turns one after the other
  abbrev pub AreTurns : World → List Turn → World → Type 0
  AreTurns w [] later = later ≡ w
  AreTurns w (turn ∷ turns) later = (v : World) × IsTurn w turn v × AreTurns v turns later

-- ---- turns that move nothing

-- the actor is blocked, or has ended; one in whose step memory lacked isn't at rest
abbrev pub IsResting : Turn → Type 0
IsResting (ClientTurn client (Ok answer)) = IsAtRest (ClientMove client answer)
IsResting (ClientTurn client (Err error)) = ⊥
IsResting (ManagerTurn (Ok answer)) = IsAtRest (ManagerMove answer)
IsResting (ManagerTurn (Err error)) = ⊥
IsResting (TileTurn tile (Ok answer)) = IsAtRest (TileMove tile answer)
IsResting (TileTurn tile (Err error)) = ⊥

-- the actor has nothing left to do
abbrev pub IsLastTurn : Turn → Type 0
IsLastTurn (ClientTurn client (Ok answer)) = IsLast (ClientMove client answer)
IsLastTurn (ClientTurn client (Err error)) = ⊥
IsLastTurn (ManagerTurn (Ok answer)) = IsLast (ManagerMove answer)
IsLastTurn (ManagerTurn (Err error)) = ⊥
IsLastTurn (TileTurn tile (Ok answer)) = IsLast (TileMove tile answer)
IsLastTurn (TileTurn tile (Err error)) = ⊥

-- ---- rounds

-- a move is a turn
abbrev pub turn_of : Move → Turn
turn_of (ClientMove client answer) = ClientTurn client (Ok answer)
turn_of (ManagerMove answer) = ManagerTurn (Ok answer)
turn_of (TileMove tile answer) = TileTurn tile (Ok answer)

-- the actors' numbers, as of moves
abbrev pub number_of : Scene → Turn → ℕ
number_of scene (ClientTurn client answer) = client
number_of scene (ManagerTurn answer) = client_total scene
number_of scene (TileTurn tile answer) = client_total scene + 1 + tile

-- nothing is left to do for anybody, short or not
pub record AllHaveStopped (scene : Scene) (l : Layout) (w : World) : Type 0 where
  pub clients : (client : ℕ) → client < client_total scene → (w.clients client).left ≡ []
  pub manager : IsNextDeed (sync_lists_of scene) (tile_count l) w.manager Finishes
  pub tiles : (tile : ℕ) → tile < tile_count l → IsFinished (w.tiles tile).short (w.tiles tile).progress

-- nobody is short
pub record AreAmple (scene : Scene) (l : Layout) (w : World) : Type 0 where
  pub clients : (client : ℕ) → client < client_total scene → (w.clients client).short ≡ false
  pub manager : w.manager.short ≡ false
  pub tiles : (tile : ℕ) → tile < tile_count l → (w.tiles tile).short ≡ false

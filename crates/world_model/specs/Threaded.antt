-- The cluster that runs on threads, as turns of a world: the stepped cluster, for each tile a lane of the parts that it shows and a part that it hands over, and
-- the caller, who takes these parts and puts the frames together. Each turn is told with what its actor saw of its lanes.
use Rattle.std.specs.Prelude.{◌≡◌, ◌≢◌, ℕ, ◌+◌, ◌<◌, ◌⊎◌, Bool, true, false, List, [], ◌∷◌, ◌++◌, length, map, Option, Some, None, option_to_list, slice_index_or, Result, Ok, Err}
use Rattle.rc_base.specs.Cluster.Tiles.{tile_count}
use Rattle.rc_base.specs.Lists.{IsIn}
use Rattle.rc_base.specs.declared.cluster.TilePart.{TilePart}
use Rattle.rc_base.specs.declared.image.Image.{Image}
use Rattle.rc_base.specs.declared.out_of_memory.OutOfMemory.{OutOfMemory}
use Rattle.rc_base.specs.declared.scene.Scene.{Scene}
use Rattle.rc_base.specs.declared.window.Layout.{Layout}
use Rattle.assembler.specs.Assembled.{places_of, short_of, AreNewParts, IsAssembled}
use Rattle.assembler.specs.Places.{in_place}
use Rattle.assembler.specs.declared.frame_parts.FrameParts.{FrameParts}
use Rattle.world_model.specs.declared.moves.TileAnswer.{TileAnswer}
use Rattle.world_model.specs.declared.moves.TileAnswer.TheVariants as tile_answer
use Rattle.world_model.specs.Turns.{Turn, IsTurnSeeing, IsResting, number_of, AllHaveStopped}
use Rattle.world_model.specs.Turns.Turn.{ClientTurn, ManagerTurn, TileTurn}
use Rattle.world_model.specs.World.{World, Lanes, all_lanes, client_total, IsNewWorld}

-- ---- the world

-- a lane of parts: what it holds, and how often it was found empty
pub record PartLane : Type 0 where
  pub parts : List TilePart
  pub empty_seen : ℕ

-- it gave its first part; it gave none; how often it was found empty; and whatever it holds
abbrev pub GaveFirst : PartLane → TilePart → PartLane → Type 0
GaveFirst a part b = a.parts ≡ part ∷ b.parts

abbrev pub GaveNone : PartLane → PartLane → Type 0
GaveNone a b = b.parts ≡ a.parts

abbrev pub empties_of : PartLane → ℕ
empties_of a = a.empty_seen

abbrev pub HoldsAny : PartLane → Type 0
HoldsAny a = Unit {0}

-- what stands where there is no lane
abbrev pub no_lane : PartLane
no_lane = record { parts = []; empty_seen = 0 }

-- The stepped cluster; the lanes of parts, tiles rising; the part that each tile hands over, and the caller's parts of the next frame.
pub record ThreadedWorld : Type 0 where
  pub cluster : World
  pub lanes : List PartLane
  pub handing : ℕ → Option TilePart
  pub caller : FrameParts

-- what the tile's lane of parts holds
abbrev pub lane_of : ThreadedWorld → ℕ → List TilePart
lane_of w tile = (slice_index_or w.lanes tile no_lane).parts

-- what an actor saw of its lanes: of those of the stepped cluster, and of the tiles' lanes of parts
pub record SeenLanes : Type 0 where
  pub cluster : Lanes
  pub parts : ℕ → List TilePart

-- they are seen as they stand
abbrev pub lanes_now : ThreadedWorld → SeenLanes
lanes_now w = record { cluster = all_lanes w.cluster; parts = λ tile. lane_of w tile }

-- nobody has done anything
pub record IsNewThreadedWorld (scene : Scene) (l : Layout) (w : ThreadedWorld) : Type 0 where
  pub cluster : IsNewWorld scene l w.cluster
  pub count : length w.lanes ≡ tile_count l
  pub lanes : (tile : ℕ) → tile < tile_count l → lane_of w tile ≡ []
  pub handing : (tile : ℕ) → tile < tile_count l → w.handing tile ≡ None
  pub caller : AreNewParts l w.caller

-- ---- turns

-- A turn of a core: of a client's, the manager's, or that of a tile that hands nothing over; of a tile that hands a part over, where it is sent or isn't; and of
-- the caller, where it moves something or doesn't, and with the frame that it completes.
pub data ThreadedTurn : Type 0 where
  Steps : (turn : Turn) → ThreadedTurn
  HandsOver : (tile : ℕ) (sent : Bool) → ThreadedTurn
  Collects : (moved : Bool) (frame : Option Image) → ThreadedTurn

-- the frames that it completes: one, or none
abbrev pub frames_by : ThreadedTurn → ℕ
frames_by (Steps turn) = 0
frames_by (HandsOver tile sent) = 0
frames_by (Collects moved frame) = length (option_to_list frame)

-- and those that turns complete
abbrev pub frames_in : List ThreadedTurn → ℕ
frames_in [] = 0
frames_in (turn ∷ turns) = frames_by turn + frames_in turns

-- ---- a part on its way into its lane

-- there is room for the part
pub record IsSent (depth : ℕ) (part : TilePart) (lane later : List TilePart) (handing : Option TilePart) : Type 0 where
  pub room : length lane < depth
  pub appended : later ≡ lane ++ part ∷ []
  pub free : handing ≡ None

-- the lane was full, and the part waits
pub record PartWaits (depth : ℕ) (part : TilePart) (lane seen later : List TilePart) (handing : Option TilePart) : Type 0 where
  pub full : length seen ≡ depth
  pub same : later ≡ lane
  pub waits : handing ≡ Some part

-- what becomes of a tile's lane and of what it hands over, where it has this part for the caller, or none
abbrev pub IsPut : ℕ → Option TilePart → List TilePart → List TilePart → List TilePart → Option TilePart → Type 0
IsPut depth None lane seen later handing = (later ≡ lane) × (handing ≡ None)
IsPut depth (Some part) lane seen later handing = IsSent depth part lane later handing ⊎ PartWaits depth part lane seen later handing

-- What a tile's step has for the caller: the part that it shows, whatever its pixels are; where memory lacked, one without pixels.
abbrev pub Offers : Result TileAnswer OutOfMemory → Option TilePart → Type 0
Offers (Ok tile_answer.Performed) offered = offered ≡ None
Offers (Ok tile_answer.Swapped) offered = (part : TilePart) × (offered ≡ Some part)
Offers (Ok tile_answer.Learnt) offered = offered ≡ None
Offers (Ok (tile_answer.Took client)) offered = offered ≡ None
Offers (Ok (tile_answer.Held client)) offered = offered ≡ None
Offers (Ok (tile_answer.Closed client)) offered = offered ≡ None
Offers (Ok (tile_answer.Dropped client)) offered = offered ≡ None
Offers (Ok tile_answer.Blocked) offered = offered ≡ None
Offers (Ok tile_answer.Ended) offered = offered ≡ None
Offers (Err lack) offered = (part : TilePart) × (offered ≡ Some part) × (part.pixels ≡ [])

-- ---- what a turn does

-- all that tiles show stays as it was
pub record NoParts (l : Layout) (w later : ThreadedWorld) : Type 0 where
  pub count : length later.lanes ≡ length w.lanes
  pub lanes : (tile : ℕ) → tile < tile_count l → lane_of later tile ≡ lane_of w tile
  pub handing : (tile : ℕ) → tile < tile_count l → later.handing tile ≡ w.handing tile
  pub caller : later.caller ≡ w.caller

-- and all but what this tile shows
pub record OnlyPartsOf (l : Layout) (w : ThreadedWorld) (tile : ℕ) (later : ThreadedWorld) : Type 0 where
  pub count : length later.lanes ≡ length w.lanes
  pub lanes : (i : ℕ) → i < tile_count l → i ≢ tile → lane_of later i ≡ lane_of w i
  pub handing : (i : ℕ) → i < tile_count l → i ≢ tile → later.handing i ≡ w.handing i
  pub caller : later.caller ≡ w.caller

-- The caller completes no frame and takes no part, and is short only where it was.
pub record IsIdleCall (l : Layout) (w : ThreadedWorld) (frame : Option Image) (later : ThreadedWorld) : Type 0 where
  pub none : frame ≡ None
  pub lanes : (tile : ℕ) → tile < tile_count l → lane_of later tile ≡ lane_of w tile
  pub short : short_of later.caller ≡ short_of w.caller

-- the caller asks the tile's lane: the tile's place is empty, or all that comes is dropped
abbrev pub IsAskedFor : ThreadedWorld → ℕ → Type 0
IsAskedFor w tile = (short_of w.caller ≡ true) ⊎ (in_place (places_of w.caller) tile ≡ None)

module _ (scene : Scene) (l : Layout) (depth : ℕ) where
  -- a client or the manager takes a step
  pub record IsOtherTurn (w : ThreadedWorld) (seen : SeenLanes) (turn : Turn) (later : ThreadedWorld) : Type 0 where
    pub step : IsTurnSeeing scene l depth w.cluster seen.cluster turn later.cluster
    pub parts : NoParts l w later

  -- A tile that hands nothing over takes a step, and what it has for the caller is put into its lane, or waits.
  pub record IsTileCoreTurn (w : ThreadedWorld) (seen : SeenLanes) (tile : ℕ) (answer : Result TileAnswer OutOfMemory) (later : ThreadedWorld) : Type 0 where
    pub free : w.handing tile ≡ None
    pub step : IsTurnSeeing scene l depth w.cluster seen.cluster (TileTurn tile answer) later.cluster
    pub offered : Option TilePart
    pub offers : Offers answer offered
    pub put : IsPut depth offered (lane_of w tile) (seen.parts tile) (lane_of later tile) (later.handing tile)
    pub only : OnlyPartsOf l w tile later

  abbrev pub IsSentOrKept : Bool → TilePart → List TilePart → List TilePart → List TilePart → Option TilePart → Type 0
  IsSentOrKept true part lane seen later handing = IsSent depth part lane later handing
  IsSentOrKept false part lane seen later handing = PartWaits depth part lane seen later handing

  -- A tile that hands a part over puts it into its lane, or found that full; its core takes no step.
  pub record IsHandOver (w : ThreadedWorld) (seen : SeenLanes) (tile : ℕ) (sent : Bool) (later : ThreadedWorld) : Type 0 where
    pub low : tile < tile_count l
    pub cluster : later.cluster ≡ w.cluster
    pub part : TilePart
    pub waits : w.handing tile ≡ Some part
    pub put : IsSentOrKept sent part (lane_of w tile) (seen.parts tile) (lane_of later tile) (later.handing tile)
    pub only : OnlyPartsOf l w tile later

  -- The caller takes at most one part of each tile, and puts them together. A lane that it asked, and that gave nothing, was empty.
  pub record IsCall (w : ThreadedWorld) (seen : SeenLanes) (moved : Bool) (frame : Option Image) (later : ThreadedWorld) : Type 0 where
    pub cluster : later.cluster ≡ w.cluster
    pub handing : (tile : ℕ) → tile < tile_count l → later.handing tile ≡ w.handing tile
    pub count : length later.lanes ≡ length w.lanes
    pub step : IsAssembled GaveFirst GaveNone empties_of HoldsAny w.caller w.lanes frame later.caller later.lanes
    pub empty : (tile : ℕ) → tile < tile_count l → IsAskedFor w tile → lane_of later tile ≡ lane_of w tile → seen.parts tile ≡ []
    pub idle : moved ≡ false → IsIdleCall l w frame later
    pub moves : moved ≡ true → IsIdleCall l w frame later → ⊥

  -- A turn of an actor that saw this of its lanes.
  abbrev pub IsThreadedTurnSeeing : ThreadedWorld → SeenLanes → ThreadedTurn → ThreadedWorld → Type 0
  IsThreadedTurnSeeing w seen (Steps (ClientTurn client answer)) later = IsOtherTurn w seen (ClientTurn client answer) later
  IsThreadedTurnSeeing w seen (Steps (ManagerTurn answer)) later = IsOtherTurn w seen (ManagerTurn answer) later
  IsThreadedTurnSeeing w seen (Steps (TileTurn tile answer)) later = IsTileCoreTurn w seen tile answer later
  IsThreadedTurnSeeing w seen (HandsOver tile sent) later = IsHandOver w seen tile sent later
  IsThreadedTurnSeeing w seen (Collects moved frame) later = IsCall w seen moved frame later

  -- it saw them as they stand, all in one moment
  abbrev pub IsThreadedTurn : ThreadedWorld → ThreadedTurn → ThreadedWorld → Type 0
  IsThreadedTurn w turn later = IsThreadedTurnSeeing w (lanes_now w) turn later

  -- A turn, whatever its actor saw: it may have looked at one lane after the other, while others took of them and appended to them.
  abbrev pub IsLooseTurn : ThreadedWorld → ThreadedTurn → ThreadedWorld → Type 0
  IsLooseTurn w turn later = (seen : SeenLanes) × IsThreadedTurnSeeing w seen turn later

  abbrev pub AreLooseTurns : ThreadedWorld → List ThreadedTurn → ThreadedWorld → Type 0
  AreLooseTurns w [] later = later ≡ w
  AreLooseTurns w (turn ∷ turns) later = (v : ThreadedWorld) × IsLooseTurn w turn v × AreLooseTurns v turns later

  -- turns of actors that see their lanes as they stand, one after the other
  abbrev pub AreThreadedTurns : ThreadedWorld → List ThreadedTurn → ThreadedWorld → Type 0
  AreThreadedTurns w [] later = later ≡ w
  AreThreadedTurns w (turn ∷ turns) later = (v : ThreadedWorld) × IsThreadedTurn w turn v × AreThreadedTurns v turns later

-- ---- rounds

-- nothing moves: the actor is blocked, or has ended; the part isn't sent; the caller finds nothing
abbrev pub IsStill : ThreadedTurn → Type 0
IsStill (Steps turn) = IsResting turn
IsStill (HandsOver tile sent) = sent ≡ false
IsStill (Collects moved frame) = moved ≡ false

-- the actors' numbers, as in the stepped cluster, and behind them the caller's
abbrev pub threaded_number : Scene → Layout → ThreadedTurn → ℕ
threaded_number scene l (Steps turn) = number_of scene turn
threaded_number scene l (HandsOver tile sent) = client_total scene + 1 + tile
threaded_number scene l (Collects moved frame) = client_total scene + 1 + tile_count l

-- among the turns each actor has one, or more, and so has the caller
abbrev pub HaveThreadedTurns : Scene → Layout → List ThreadedTurn → Type 0
HaveThreadedTurns scene l turns = (actor : ℕ) → actor < client_total scene + 1 + tile_count l + 1 → IsIn actor (map (threaded_number scene l) turns)

-- all actors have stopped, and no part waits for anybody
pub record AllThreadsHaveStopped (scene : Scene) (l : Layout) (w : ThreadedWorld) : Type 0 where
  pub cluster : AllHaveStopped scene l w.cluster
  pub handing : (tile : ℕ) → tile < tile_count l → w.handing tile ≡ None
  pub lanes : (tile : ℕ) → tile < tile_count l → lane_of w tile ≡ []
  pub places : short_of w.caller ≡ false → (tile : ℕ) → tile < tile_count l → in_place (places_of w.caller) tile ≡ None

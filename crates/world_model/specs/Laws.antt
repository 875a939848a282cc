-- Laws of the stepped cluster: over every schedule, its worlds are sound, and where all have ended they make a lawful record.
use Rattle.std.specs.Prelude.{◌≡◌, ℕ, ◌+◌, ◌<◌, true, List, ◌++◌, length, map, Some, slice_get, pos}
use Rattle.std.specs.List.{AllByRecursion}
use Rattle.rc_base.specs.Cluster.Parcels.{parcels_of}
use Rattle.rc_base.specs.Cluster.Tiles.{tile_count, tile_pixels}
use Rattle.rc_base.specs.Drawing.Images.{Pixels}
use Rattle.rc_base.specs.Drawing.Serial.{frame_pixel}
use Rattle.rc_base.specs.Orders.Book.{waiting_in, IsBookOver}
use Rattle.rc_base.specs.Orders.Journal.{IsLegal, waiting_of}
use Rattle.rc_base.specs.Orders.Sync.{sync_lists_of}
use Rattle.rc_base.specs.declared.scene.Scene.{Scene}
use Rattle.rc_base.specs.declared.window.Layout.{Layout}
use Rattle.order_model.specs.Gathering.{HasArrived}
use Rattle.order_model.specs.Log.{Replays}
use Rattle.order_model.specs.Report.{tile_order, frame_count}
use Rattle.order_model.specs.Sent.{jobs_of, IsRecordOf}
use Rattle.order_model.specs.Standing.{IsUnderWay, IsDone}
use Rattle.order_model.specs.declared.record.Record.{Record}
use Rattle.tile_model.specs.Scenes.{IsInRange, HasSides}
use Rattle.client_issue.specs.Clauses.{counted}
use Rattle.world_model.specs.declared.moves.Move.{Move}
use Rattle.world_model.specs.Moves.{IsMove, AreMoves, IsAtRest, IsLast}
use Rattle.world_model.specs.Flowing.{IsFlowing}
use Rattle.world_model.specs.Runs.{AllHaveEnded, actor_of, round_of, IsSteppedRun, IsFinishedRun}
use Rattle.world_model.specs.Sound.{IsSound}
use Rattle.world_model.specs.Turns.{Turn, IsTurnSeeing, IsTurn, AreTurns, IsResting, IsLastTurn, turn_of, number_of, AllHaveStopped, AreAmple}
use Rattle.world_model.specs.World.{World, Lanes, client_total, IsNewWorld}

-- ---- the induction

abbrev pub NewWorldsAreSound : Type 0
NewWorldsAreSound = (scene : Scene) (l : Layout) (w : World) → IsNewWorld scene l w → IsSound scene l w

-- a move of whichever actor, at whichever depth of the lanes, leaves a sound world sound
abbrev pub MovesKeepWorldsSound : Type 0
MovesKeepWorldsSound =
    (scene : Scene) (l : Layout) (depth : ℕ) (w later : World) (move : Move) → IsInRange scene → HasSides scene.decl → IsSound scene l w
    → IsMove scene l depth w move later → IsSound scene l later

-- and so does every schedule
abbrev pub SchedulesKeepWorldsSound : Type 0
SchedulesKeepWorldsSound =
    (scene : Scene) (l : Layout) (depth : ℕ) (w later : World) (moves : List Move) → IsInRange scene → HasSides scene.decl → IsSound scene l w
    → AreMoves scene l depth w moves later → IsSound scene l later

abbrev pub SteppedRunsAreSound : Type 0
SteppedRunsAreSound =
    (scene : Scene) (l : Layout) (depth : ℕ) (picks : List ℕ) (moves : List Move) (w : World) → IsInRange scene → HasSides scene.decl
    → IsSteppedRun scene l depth picks moves w → IsSound scene l w

-- a run goes on with the moves of more picks
abbrev pub RunsGoOn : Type 0
RunsGoOn =
    (scene : Scene) (l : Layout) (depth : ℕ) (picks later : List ℕ) (moves more : List Move) (w v : World) → IsSteppedRun scene l depth picks moves w
    → map (actor_of scene) more ≡ later → AreMoves scene l depth w more v → IsSteppedRun scene l depth (picks ++ later) (moves ++ more) v

-- The worlds are alike: their lanes hold the same, and their actors are as far. What the tiles' boards are outside the tiles is left open.
pub record AreAlike (scene : Scene) (l : Layout) (w v : World) : Type 0 where
  pub left : (client : ℕ) → client < client_total scene → (v.clients client).left ≡ (w.clients client).left
  pub manager : v.manager ≡ w.manager
  pub progress : (tile : ℕ) → tile < tile_count l → (v.tiles tile).progress ≡ (w.tiles tile).progress
  pub next : (tile : ℕ) → tile < tile_count l → (v.tiles tile).next ≡ (w.tiles tile).next
  pub parcels : (client tile : ℕ) → client < client_total scene → tile < tile_count l → v.parcels client tile ≡ w.parcels client tile
  pub requests : (client : ℕ) → client < client_total scene → v.requests client ≡ w.requests client
  pub grants : (tile : ℕ) → tile < tile_count l → v.grants tile ≡ w.grants tile

-- the picks alone determine what each actor answers, and so the lists, the journal and the logs
abbrev pub OneScheduleHasOneRun : Type 0
OneScheduleHasOneRun =
    (scene : Scene) (l : Layout) (depth : ℕ) (picks : List ℕ) (moves others : List Move) (w v : World) → IsInRange scene → HasSides scene.decl
    → IsSteppedRun scene l depth picks moves w → IsSteppedRun scene l depth picks others v → (others ≡ moves) × AreAlike scene l w v

-- ---- of every sound world

-- the manager's journal is legal, and the tiles' logs replay over it
pub record HasLegalLogs (scene : Scene) (l : Layout) (w : World) : Type 0 where
  pub legal : IsLegal (sync_lists_of scene) w.manager.book.journal
  pub replays : (tile : ℕ) → tile < tile_count l
      → Replays (sync_lists_of scene) w.manager.book.journal (λ client. jobs_of scene l client tile) (w.tiles tile).progress.log

abbrev pub SoundWorldsHaveLegalLogs : Type 0
SoundWorldsHaveLegalLogs = (scene : Scene) (l : Layout) (w : World) → IsSound scene l w → HasLegalLogs scene l w

-- ---- moves that move nothing

-- all lanes and actors are as they were
pub record IsSameWorld (scene : Scene) (l : Layout) (w later : World) : Type 0 where
  pub left : (client : ℕ) → client < client_total scene → (later.clients client).left ≡ (w.clients client).left
  pub tallies : (client tile : ℕ) → client < client_total scene → (later.clients client).tallies tile ≡ (w.clients client).tallies tile
  pub short : (client : ℕ) → client < client_total scene → (later.clients client).short ≡ (w.clients client).short
  pub manager : later.manager ≡ w.manager
  pub tiles : (tile : ℕ) → tile < tile_count l → later.tiles tile ≡ w.tiles tile
  pub parcels : (client tile : ℕ) → client < client_total scene → tile < tile_count l → later.parcels client tile ≡ w.parcels client tile
  pub requests : (client : ℕ) → client < client_total scene → later.requests client ≡ w.requests client
  pub grants : (tile : ℕ) → tile < tile_count l → later.grants tile ≡ w.grants tile

-- the move of an actor that is blocked or has ended changes nothing
abbrev pub RestChangesNothing : Type 0
RestChangesNothing =
    (scene : Scene) (l : Layout) (depth : ℕ) (w later : World) (move : Move) → IsAtRest move → IsMove scene l depth w move later
    → IsSameWorld scene l w later

-- and so do any moves that move nothing
abbrev pub RestsChangeNothing : Type 0
RestsChangeNothing =
    (scene : Scene) (l : Layout) (depth : ℕ) (w later : World) (moves : List Move) → AllByRecursion IsAtRest moves → AreMoves scene l depth w moves later
    → IsSameWorld scene l w later

-- where all have ended, each actor's moves say so, and change nothing
abbrev pub EndedWorldsRest : Type 0
EndedWorldsRest =
    (scene : Scene) (l : Layout) (depth : ℕ) (w later : World) (moves : List Move) → AllHaveEnded scene l w → AreMoves scene l depth w moves later
    → AllByRecursion IsLast moves × IsSameWorld scene l w later

-- and where each move of a round says so, all had ended before it
abbrev pub LastRoundsTell : Type 0
LastRoundsTell =
    (scene : Scene) (l : Layout) (depth : ℕ) (w later : World) (moves : List Move) → map (actor_of scene) moves ≡ round_of scene l
    → AreMoves scene l depth w moves later → AllByRecursion IsLast moves → AllHaveEnded scene l w

-- ---- where all have ended

-- the record of a world: the scene's lists, the manager's journal and the tiles' logs
pub record IsRecordIn (scene : Scene) (l : Layout) (w : World) (kept : Record) : Type 0 where
  pub syncs : kept.syncs ≡ sync_lists_of scene
  pub journal : kept.journal ≡ w.manager.book.journal
  pub count : length kept.logs ≡ tile_count l
  pub logs : (tile : ℕ) → tile < tile_count l → slice_get kept.logs tile ≡ Some (w.tiles tile).progress.log

-- The book is over, and what arrived are fronts of the scene's operations; each tile is under way for the journal, and done.
pub record IsOver (scene : Scene) (l : Layout) (w : World) : Type 0 where
  pub arrived : HasArrived (sync_lists_of scene) w.manager.book
  pub over : IsBookOver (sync_lists_of scene) w.manager.book
  pub legal : IsLegal (sync_lists_of scene) w.manager.book.journal
  pub under_way : (tile : ℕ) → tile < tile_count l
      → IsUnderWay (sync_lists_of scene) w.manager.book.journal (λ client. jobs_of scene l client tile) (w.tiles tile).progress
  pub done : (tile : ℕ) → tile < tile_count l → IsDone (sync_lists_of scene) w.manager.book.journal (w.tiles tile).progress

abbrev pub EndedWorldsAreOver : Type 0
EndedWorldsAreOver = (scene : Scene) (l : Layout) (w : World) → IsInRange scene → IsSound scene l w → AllHaveEnded scene l w → IsOver scene l w

abbrev pub EndedWorldsAreLawful : Type 0
EndedWorldsAreLawful =
    (scene : Scene) (l : Layout) (w : World) (kept : Record) → IsInRange scene → IsSound scene l w → AllHaveEnded scene l w
    → IsRecordIn scene l w kept → IsRecordOf scene l kept

-- a tile's parts are one for each Swap of the record, and each is the tile's pixels of that frame in the order that the tile's log records
pub record ShowsFrames (scene : Scene) (l : Layout) (kept : Record) (tile : ℕ) (parts : List Pixels) : Type 0 where
  pub count : length parts ≡ frame_count kept.journal
  pub pixels : (k : ℕ) (part : Pixels) → slice_get parts k ≡ Some part → (x y : ℕ) → tile_pixels l tile x y ≡ true
      → part (pos x) (pos y) ≡ frame_pixel scene (tile_order kept tile) (k + 1) (pos x) (pos y)

abbrev pub EndedWorldsShowFrames : Type 0
EndedWorldsShowFrames =
    (scene : Scene) (l : Layout) (w : World) (kept : Record) → IsSound scene l w → AllHaveEnded scene l w → IsRecordIn scene l w kept
    → (tile : ℕ) → tile < tile_count l → ShowsFrames scene l kept tile (w.tiles tile).parts

-- each client is left waiting in the book where the journal leaves it waiting
abbrev pub EndedWorldsWaitAlike : Type 0
EndedWorldsWaitAlike =
    (scene : Scene) (l : Layout) (w : World) → IsInRange scene → IsSound scene l w → AllHaveEnded scene l w
    → (client : ℕ) → waiting_in (sync_lists_of scene) w.manager.book client ≡ waiting_of (sync_lists_of scene) w.manager.book.journal client

-- each tally is that of all parcels of the client to the tile, also of those beyond the place where it waits for ever
abbrev pub EndedWorldsTallyAll : Type 0
EndedWorldsTallyAll =
    (scene : Scene) (l : Layout) (w : World) → IsSound scene l w → AllHaveEnded scene l w
    → (client tile : ℕ) → client < client_total scene → tile < tile_count l
    → (w.clients client).tallies tile ≡ counted scene l client tile (parcels_of scene l client tile)

-- ---- every schedule

-- What the record of a world says where all have ended: it is lawful, the parts are the frames, and the clients wait and are tallied as the scene says.
pub record IsWorldRecord (scene : Scene) (l : Layout) (w : World) (kept : Record) : Type 0 where
  pub lawful : IsRecordOf scene l kept
  pub frames : (tile : ℕ) → tile < tile_count l → ShowsFrames scene l kept tile (w.tiles tile).parts
  pub waiting : (client : ℕ) → waiting_in (sync_lists_of scene) w.manager.book client ≡ waiting_of (sync_lists_of scene) kept.journal client
  pub tallies : (client tile : ℕ) → client < client_total scene → tile < tile_count l
      → (w.clients client).tallies tile ≡ counted scene l client tile (parcels_of scene l client tile)

-- whatever the picks, the depth of the lanes and the layout
abbrev pub FinishedRunsAreWhole : Type 0
FinishedRunsAreWhole =
    (scene : Scene) (l : Layout) (depth rounds : ℕ) (picks : List ℕ) (moves : List Move) (w : World) (kept : Record) → IsInRange scene → HasSides scene.decl
    → IsFinishedRun scene l depth picks rounds moves w → IsRecordIn scene l w kept → IsWorldRecord scene l w kept

-- and the picks determine the run: how many rounds it takes, what each actor answers, and so the journal and the logs
abbrev pub FinishedRunsAreOne : Type 0
FinishedRunsAreOne =
    (scene : Scene) (l : Layout) (depth rounds count : ℕ) (picks : List ℕ) (moves others : List Move) (w v : World) → IsInRange scene → HasSides scene.decl
    → IsFinishedRun scene l depth picks rounds moves w → IsFinishedRun scene l depth picks count others v
    → (count ≡ rounds) × (others ≡ moves) × AreAlike scene l w v

-- so the picks determine the record
abbrev pub FinishedRunsLeaveOneRecord : Type 0
FinishedRunsLeaveOneRecord =
    (scene : Scene) (l : Layout) (depth rounds count : ℕ) (picks : List ℕ) (moves others : List Move) (w v : World) (kept other : Record)
    → IsInRange scene → HasSides scene.decl → IsFinishedRun scene l depth picks rounds moves w → IsFinishedRun scene l depth picks count others v
    → IsRecordIn scene l w kept → IsRecordIn scene l v other → other ≡ kept

-- ---- whoever is short

abbrev pub NewWorldsFlow : Type 0
NewWorldsFlow = (scene : Scene) (l : Layout) (w : World) → IsNewWorld scene l w → IsFlowing scene l w

-- a turn of whichever actor, short or not, and one in which memory lacks, leaves a flowing world flowing, whatever its actor saw of its lanes
abbrev pub TurnsKeepWorldsFlowing : Type 0
TurnsKeepWorldsFlowing =
    (scene : Scene) (l : Layout) (depth : ℕ) (w later : World) (seen : Lanes) (turn : Turn) → IsFlowing scene l w → IsTurnSeeing scene l depth w seen turn later
    → IsFlowing scene l later

-- and so do turns one after the other
abbrev pub RoundsKeepWorldsFlowing : Type 0
RoundsKeepWorldsFlowing =
    (scene : Scene) (l : Layout) (depth : ℕ) (w later : World) (turns : List Turn) → IsFlowing scene l w → AreTurns scene l depth w turns later
    → IsFlowing scene l later

-- so the worlds of stepped runs flow, and nobody is short in them
abbrev pub SteppedRunsFlow : Type 0
SteppedRunsFlow =
    (scene : Scene) (l : Layout) (depth : ℕ) (picks : List ℕ) (moves : List Move) (w : World) → IsSteppedRun scene l depth picks moves w
    → IsFlowing scene l w × AreAmple scene l w

-- ---- moves and turns

-- a move is a turn that answers without want of memory
abbrev pub MovesAreTurns : Type 0
MovesAreTurns = (scene : Scene) (l : Layout) (depth : ℕ) (w later : World) (move : Move) → IsMove scene l depth w move later → IsTurn scene l depth w (turn_of move) later

-- and where nobody is short such a turn is a move, after which nobody is short
abbrev pub AmpleTurnsAreMoves : Type 0
AmpleTurnsAreMoves =
    (scene : Scene) (l : Layout) (depth : ℕ) (w later : World) (move : Move) → AreAmple scene l w → IsTurn scene l depth w (turn_of move) later
    → IsMove scene l depth w move later × AreAmple scene l later

-- Where nobody is short, nobody was before, and no turn that led there lacked memory: they are moves.
abbrev pub TurnsToAmpleWorldsAreMoves : Type 0
TurnsToAmpleWorldsAreMoves =
    (scene : Scene) (l : Layout) (depth : ℕ) (w later : World) (turns : List Turn) → AreTurns scene l depth w turns later → AreAmple scene l later
    → AreAmple scene l w × ((moves : List Move) × (turns ≡ map turn_of moves) × AreMoves scene l depth w moves later)

-- where nobody is short, all have stopped where all have ended
abbrev pub AmpleWorldsEnd : Type 0
AmpleWorldsEnd = (scene : Scene) (l : Layout) (w : World) → AreAmple scene l w → AllHaveStopped scene l w → AllHaveEnded scene l w

-- ---- turns that move nothing

-- the turn of an actor that is blocked or has ended changes nothing, whatever it saw of its lanes
abbrev pub RestingTurnsChangeNothing : Type 0
RestingTurnsChangeNothing =
    (scene : Scene) (l : Layout) (depth : ℕ) (w later : World) (seen : Lanes) (turn : Turn) → IsResting turn → IsTurnSeeing scene l depth w seen turn later
    → IsSameWorld scene l w later

-- and so do turns one after the other that move nothing
abbrev pub RestingRoundsChangeNothing : Type 0
RestingRoundsChangeNothing =
    (scene : Scene) (l : Layout) (depth : ℕ) (w later : World) (turns : List Turn) → AllByRecursion IsResting turns → AreTurns scene l depth w turns later
    → IsSameWorld scene l w later

-- where all have stopped, each actor's turns say so, and change nothing
abbrev pub StoppedWorldsRest : Type 0
StoppedWorldsRest =
    (scene : Scene) (l : Layout) (depth : ℕ) (w later : World) (turns : List Turn) → AllHaveStopped scene l w → AreTurns scene l depth w turns later
    → AllByRecursion IsLastTurn turns × IsSameWorld scene l w later

-- and where each turn of a round says so, all had stopped before it, and have after it
abbrev pub LastTurnsTell : Type 0
LastTurnsTell =
    (scene : Scene) (l : Layout) (depth : ℕ) (w later : World) (turns : List Turn) → map (number_of scene) turns ≡ round_of scene l
    → AreTurns scene l depth w turns later → AllByRecursion IsLastTurn turns → AllHaveStopped scene l w × AllHaveStopped scene l later

-- ---- no standstill

-- a whole round moves somebody until all have stopped, for every depth above 0, whoever is short
abbrev pub RoundsMoveSomebody : Type 0
RoundsMoveSomebody =
    (scene : Scene) (l : Layout) (depth : ℕ) (round : List Turn) (w later : World) → 0 < depth → IsFlowing scene l w
    → map (number_of scene) round ≡ round_of scene l → AreTurns scene l depth w round later → AllByRecursion IsResting round → AllHaveStopped scene l later

-- so nothing stands still, whatever turns led there from a new world
abbrev pub NoRunStandsStill : Type 0
NoRunStandsStill =
    (scene : Scene) (l : Layout) (depth : ℕ) (turns round : List Turn) (first w later : World) → 0 < depth → IsNewWorld scene l first
    → AreTurns scene l depth first turns w → map (number_of scene) round ≡ round_of scene l → AreTurns scene l depth w round later
    → AllByRecursion IsResting round → AllHaveStopped scene l later

-- Laws of the cluster that runs on threads: it doesn't stand still, whoever is short in it.
use Rattle.std.specs.Prelude.{◌≡◌, ℕ, ◌+◌, ◌*◌, ◌<◌, ◌≤◌, not, true, false, cond, List, ◌++◌, length, Option, option_to_list}
use Rattle.std.specs.List.{list_any, AllByRecursion}
use Rattle.rc_base.specs.Cluster.Tiles.{tile_count}
use Rattle.rc_base.specs.Formats.Within.{IsLayoutFor}
use Rattle.rc_base.specs.declared.cluster.TilePart.{TilePart}
use Rattle.rc_base.specs.declared.scene.Scene.{Scene}
use Rattle.rc_base.specs.declared.window.Layout.{Layout}
use Rattle.order_model.specs.Report.{frame_count}
use Rattle.tile_model.specs.Items.{shown_frames}
use Rattle.assembler.specs.Assembled.{layout_of, places_of, short_of}
use Rattle.assembler.specs.Parts.{tile_height, tile_width}
use Rattle.assembler.specs.Places.{fits, in_place, AllFit}
use Rattle.world_model.specs.Flowing.{IsFlowing}
use Rattle.world_model.specs.Threaded.{ThreadedWorld, ThreadedTurn, SeenLanes, lane_of, frames_by, frames_in, IsNewThreadedWorld}
use Rattle.world_model.specs.Threaded.{IsThreadedTurnSeeing, AreLooseTurns, AreThreadedTurns, IsStill, HaveThreadedTurns, AllThreadsHaveStopped}
use Rattle.world_model.specs.Tiles.{Tile}

-- ---- what is true of every world that turns lead to

-- the tile's parts that the caller hasn't taken: those in its lane, and the one that it hands over
abbrev pub waiting_parts : ThreadedWorld → ℕ → List TilePart
waiting_parts w tile = lane_of w tile ++ option_to_list (w.handing tile)

-- After so many frames, with this part in its place and these that wait, the tile has shown a part for each Swap that it has performed, and, where it is short, one
-- behind them. Where it is short, a part that doesn't fit waits.
pub record IsTileShown (l : Layout) (tile frames : ℕ) (place : Option TilePart) (waiting : List TilePart) (a : Tile) : Type 0 where
  pub count : frames + length (option_to_list place) + length waiting ≡ shown_frames a.progress + cond a.short 1 0
  pub told : a.short ≡ true → list_any (λ part. not (fits l tile part)) waiting ≡ true

-- so of each tile, and the parts in places fit
pub record AreShown (l : Layout) (frames : ℕ) (w : ThreadedWorld) : Type 0 where
  pub fit : AllFit l (places_of w.caller)
  pub tiles : (tile : ℕ) → tile < tile_count l → IsTileShown l tile frames (in_place (places_of w.caller) tile) (waiting_parts w tile) (w.cluster.tiles tile)

-- The cluster flows; each entry but the last is with each tile; no tile has shown more frames than were granted; and while the caller isn't short, it has completed so
-- many frames of what the tiles have shown, and the rest waits.
pub record IsThreadedFlowing (scene : Scene) (l : Layout) (frames : ℕ) (w : ThreadedWorld) : Type 0 where
  pub cluster : IsFlowing scene l w.cluster
  pub pace : (tile : ℕ) → tile < tile_count l → length w.cluster.manager.book.journal ≤ w.cluster.manager.delivered tile + 1
  pub few : (tile : ℕ) → tile < tile_count l → shown_frames (w.cluster.tiles tile).progress ≤ frame_count w.cluster.manager.book.journal
  pub layout : layout_of w.caller ≡ l
  pub lanes : length w.lanes ≡ tile_count l
  pub shown : short_of w.caller ≡ false → AreShown l frames w

-- each tile has pixels
abbrev pub HavePixels : Layout → Type 0
HavePixels l = (tile : ℕ) → tile < tile_count l → 0 < tile_width l tile * tile_height l tile

-- so it is within the limits
abbrev pub LayoutsHavePixels : Type 0
LayoutsHavePixels = (scene : Scene) (l : Layout) (depth : ℕ) → IsLayoutFor scene l depth → HavePixels l

-- ---- laws

abbrev pub NewThreadedWorldsFlow : Type 0
NewThreadedWorldsFlow = (scene : Scene) (l : Layout) (w : ThreadedWorld) → IsNewThreadedWorld scene l w → IsThreadedFlowing scene l 0 w

-- a turn of whichever actor, short or not, and one in which memory lacks, leaves a flowing world flowing, whatever its actor saw of its lanes
abbrev pub ThreadedTurnsKeepFlowing : Type 0
ThreadedTurnsKeepFlowing =
    (scene : Scene) (l : Layout) (depth frames : ℕ) (w later : ThreadedWorld) (seen : SeenLanes) (turn : ThreadedTurn) → HavePixels l
    → IsThreadedFlowing scene l frames w → IsThreadedTurnSeeing scene l depth w seen turn later → IsThreadedFlowing scene l (frames + frames_by turn) later

-- and so do turns one after the other
abbrev pub AllThreadedTurnsKeepFlowing : Type 0
AllThreadedTurnsKeepFlowing =
    (scene : Scene) (l : Layout) (depth frames : ℕ) (w later : ThreadedWorld) (turns : List ThreadedTurn) → HavePixels l
    → IsThreadedFlowing scene l frames w → AreLooseTurns scene l depth w turns later → IsThreadedFlowing scene l (frames + frames_in turns) later

-- Turns in any sequence, among which each actor has one and so has the caller, move somebody until all have stopped and no part waits: for lanes of every depth
-- above 0, whoever is short.
abbrev pub ThreadedTurnsMoveSomebody : Type 0
ThreadedTurnsMoveSomebody =
    (scene : Scene) (l : Layout) (depth : ℕ) (turns : List ThreadedTurn) (w later : ThreadedWorld) (frames : ℕ) → 0 < depth → IsThreadedFlowing scene l frames w
    → HaveThreadedTurns scene l turns → AreThreadedTurns scene l depth w turns later → AllByRecursion IsStill turns → AllThreadsHaveStopped scene l later

-- So nothing stands still on a layout within the limits, whatever turns led there from a new world.
abbrev pub NoThreadedRunStandsStill : Type 0
NoThreadedRunStandsStill =
    (scene : Scene) (l : Layout) (depth : ℕ) (turns round : List ThreadedTurn) (first w later : ThreadedWorld) → IsLayoutFor scene l depth
    → IsNewThreadedWorld scene l first → AreLooseTurns scene l depth first turns w → HaveThreadedTurns scene l round
    → AreThreadedTurns scene l depth w round later → AllByRecursion IsStill round → AllThreadsHaveStopped scene l later

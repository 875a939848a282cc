-- How many parts of each tile are held in the cluster that runs on threads: few, however many frames there are, and whatever actors see of their lanes.
use Rattle.std.specs.Prelude.{◌≡◌, ℕ, ◌+◌, ◌*◌, ◌<◌, ◌≤◌, false, cond, List, length, option_to_list}
use Rattle.rc_base.specs.Cluster.Tiles.{tile_count}
use Rattle.rc_base.specs.Formats.Within.{IsLayoutFor}
use Rattle.rc_base.specs.declared.scene.Scene.{Scene}
use Rattle.rc_base.specs.declared.window.Layout.{Layout}
use Rattle.tile_model.specs.Items.{shown_frames}
use Rattle.assembler.specs.Assembled.{places_of, short_of}
use Rattle.assembler.specs.Places.{in_place}
use Rattle.world_model.specs.Threaded.{ThreadedWorld, ThreadedTurn, lane_of, frames_in, IsNewThreadedWorld, AreLooseTurns}
use Rattle.world_model.specs.ThreadedLaws.{waiting_parts}
use Rattle.world_model.specs.Work.{total}

-- how many parts of the tile are held: the one in its place, those in its lane, and the one that it hands over
abbrev pub held_of : ThreadedWorld → ℕ → ℕ
held_of w tile = length (option_to_list (in_place (places_of w.caller) tile)) + length (waiting_parts w tile)

-- No lane of parts holds more than its depth. While the caller isn't short, the frames that its calls gave and the parts that are held are, of each tile, the frames
-- that it has shown, and one part more where it is short.
pub record HoldsLittle (l : Layout) (depth frames : ℕ) (w : ThreadedWorld) : Type 0 where
  pub lanes : (tile : ℕ) → tile < tile_count l → length (lane_of w tile) ≤ depth
  pub count : short_of w.caller ≡ false → (tile : ℕ) → tile < tile_count l
      → frames + held_of w tile ≡ shown_frames (w.cluster.tiles tile).progress + cond (w.cluster.tiles tile).short 1 0

-- so whatever turns led there from a new world
abbrev pub ThreadedRunsHoldLittle : Type 0
ThreadedRunsHoldLittle =
    (scene : Scene) (l : Layout) (depth : ℕ) (turns : List ThreadedTurn) (first w : ThreadedWorld) → IsLayoutFor scene l depth → IsNewThreadedWorld scene l first
    → AreLooseTurns scene l depth first turns w → HoldsLittle l depth (frames_in turns) w

-- so no tile has shown more than depth + 2 frames beyond those that the calls gave
abbrev pub NoTileRunsAhead : Type 0
NoTileRunsAhead =
    (scene : Scene) (l : Layout) (depth : ℕ) (turns : List ThreadedTurn) (first w : ThreadedWorld) → IsLayoutFor scene l depth → IsNewThreadedWorld scene l first
    → AreLooseTurns scene l depth first turns w → short_of w.caller ≡ false
    → (tile : ℕ) → tile < tile_count l → shown_frames (w.cluster.tiles tile).progress ≤ frames_in turns + (depth + 2)

-- of each tile at most depth + 2 parts are held, whoever is short
abbrev pub FewPartsOfEachTileAreHeld : Type 0
FewPartsOfEachTileAreHeld =
    (scene : Scene) (l : Layout) (depth : ℕ) (turns : List ThreadedTurn) (first w : ThreadedWorld) → IsLayoutFor scene l depth → IsNewThreadedWorld scene l first
    → AreLooseTurns scene l depth first turns w → (tile : ℕ) → tile < tile_count l → held_of w tile ≤ depth + 2

-- and of all tiles together fewer than so many each, while the caller isn't short: one place is empty
abbrev pub FewPartsAreHeld : Type 0
FewPartsAreHeld =
    (scene : Scene) (l : Layout) (depth : ℕ) (turns : List ThreadedTurn) (first w : ThreadedWorld) → IsLayoutFor scene l depth → IsNewThreadedWorld scene l first
    → AreLooseTurns scene l depth first turns w → short_of w.caller ≡ false → total (held_of w) (tile_count l) < (depth + 2) * tile_count l

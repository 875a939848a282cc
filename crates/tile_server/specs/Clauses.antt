-- What a tile's core promises of itself, of the lists of its own lane ends and of the parts that it gave alone, whatever the items are.
use Rattle.std.specs.Prelude.{◌≡◌, ℕ, ◌+◌, ◌<◌, ◌^◌, Bool, true, false, List, [], ◌∷◌, ◌++◌, length, Some, slice_get, slice_index_or, option_to_list, Result, Ok, Err}
use Rattle.rc_base.specs.Lists.{IsFront}
use Rattle.rc_base.specs.Cluster.Lanes.{Follows}
use Rattle.rc_base.specs.Cluster.Parcels.{parcels_of}
use Rattle.rc_base.specs.Orders.Journal.{IsLegal}
use Rattle.rc_base.specs.Orders.Sync.{sync_lists_of}
use Rattle.rc_base.specs.declared.cluster.TileMoved.{TileMoved}
use Rattle.rc_base.specs.declared.cluster.TileMoved.TheVariants as moved
use Rattle.rc_base.specs.declared.cluster.TilePart.{TilePart}
use Rattle.rc_base.specs.declared.out_of_memory.OutOfMemory.{OutOfMemory}
use Rattle.rc_base.specs.declared.scene.Scene.{Scene}
use Rattle.rc_base.specs.declared.state.Parcel.{Parcel}
use Rattle.rc_base.specs.declared.sync.Entry.{Entry}
use Rattle.rc_base.specs.declared.sync.Grant.{Grant}
use Rattle.rc_base.specs.declared.window.Layout.{Layout}
use Rattle.order_model.specs.Gathering.{all_grants}
use Rattle.order_model.specs.Log.{Replays, recorded_order}
use Rattle.order_model.specs.Sent.{jobs_of}
use Rattle.order_model.specs.Standing.{Progress, new_progress, IsDone, IsUnderWay}
use Rattle.order_model.specs.declared.record.LogEntry.{LogEntry}
use Rattle.tile_model.specs.Boards.{IsNewBoard}
use Rattle.tile_model.specs.Items.{grants_heard, shown_frames}
use Rattle.tile_model.specs.Laws.{added_names}
use Rattle.tile_model.specs.Scenes.{HasSides, IsInRange}
use Rattle.tile_model.specs.Short.{IsFinished}
use Rattle.tile_server.specs.Cores.{board_of, clients_of, decl_of, is_short, layout_of, tile_of, IsProgressOf, IsSameView, IsTileStep, AreTaken, IsHeard}
use Rattle.tile_server.specs.Deeds.{answer_of, granted_of, taken_of}
use Rattle.tile_server.specs.Laws.{IsTileOf, IsFramePart}
use Rattle.tile_server.specs.declared.deed.TileDeed.{TileDeed}
use Rattle.tile_server.specs.declared.tile_core.TileCore.{TileCore}

-- ---- parts

-- the part that a step shows, by its answer
abbrev pub shown_in : Result TileMoved OutOfMemory → List TilePart
shown_in (Ok moved.Performed) = []
shown_in (Ok (moved.Swapped part)) = part ∷ []
shown_in (Ok moved.Learnt) = []
shown_in (Ok (moved.Took client)) = []
shown_in (Ok (moved.Held client)) = []
shown_in (Ok (moved.Closed client)) = []
shown_in (Ok (moved.Dropped client)) = []
shown_in (Ok moved.Blocked) = []
shown_in (Ok moved.Ended) = []
shown_in (Err lack) = []

-- One part for each Swap that the tile has performed: its pixels of that frame, of the names that its log has added, as long as the frames' numbers have
-- 32 bits.
pub record AreTileFrames (scene : Scene) (l : Layout) (this_tile : ℕ) (journal : List Entry) (p : Progress) (parts : List TilePart) : Type 0 where
  pub count : length parts ≡ shown_frames p
  pub each : (k : ℕ) (part : TilePart) → slice_get parts k ≡ Some part → k + 1 < 2 ^ 32
      → IsFramePart scene l (added_names (sync_lists_of scene) journal p.log) this_tile (k + 1) part

-- Names that are added later change none of these frames: a part is that of its frame also of the names that the log has added when it has gone on, and of
-- the whole order that it records then.
abbrev pub TileFramesStay : Type 0
TileFramesStay = (scene : Scene) (l : Layout) (tile : ℕ) (journal : List Entry) (p : Progress) (parts : List TilePart) (more : List LogEntry)
    → IsLegal (sync_lists_of scene) journal → IsUnderWay (sync_lists_of scene) journal (λ client. jobs_of scene l client tile) p
    → AreTileFrames scene l tile journal p parts
    → Replays (sync_lists_of scene) journal (λ client. jobs_of scene l client tile) (p.log ++ more)
    → (k : ℕ) (part : TilePart) → slice_get parts k ≡ Some part → k + 1 < 2 ^ 32
    → IsFramePart scene l (added_names (sync_lists_of scene) journal (p.log ++ more)) tile (k + 1) part
    × IsFramePart scene l (recorded_order (sync_lists_of scene) journal (p.log ++ more)) tile (k + 1) part

-- ---- the clause

-- The core stands for the scene and the journal, and its parts are the frames.
pub record IsTileRight (scene : Scene) (l : Layout) (this_tile : ℕ) (journal : List Entry) (core : TileCore) (p : Progress) (parts : List TilePart) : Type 0 where
  pub stands : IsTileOf scene l this_tile journal core p
  pub frames : AreTileFrames scene l this_tile journal p parts

-- What holds of a core that isn't short: it stands for so much progress, which counts what was taken of its lanes. Take any legal journal of the scene.
-- Where what was taken of each client is a front of its parcels, and what was heard is a front of the journal and NoMore behind it, the core is right
-- for the scene and the journal. Where it has ended nothing is left to do.
pub record IsTileAt (scene : Scene) (l : Layout) (this_tile : ℕ) (core : TileCore) (p : Progress) (took : ℕ → List Parcel) (heard : List Grant) (parts : List TilePart)
    (ended : Bool) : Type 0 where
  pub progress : IsProgressOf core p
  pub taken : (client : ℕ) → client < length scene.streams → p.taken client ≡ length (took client)
  pub heard_is : heard ≡ grants_heard p
  pub right : IsInRange scene → HasSides scene.decl → (journal : List Entry) → IsLegal (sync_lists_of scene) journal
      → ((client : ℕ) → client < length scene.streams → IsFront (took client) (parcels_of scene l client this_tile))
      → IsFront heard (all_grants journal) → IsTileRight scene l this_tile journal core p parts
  pub over : ended ≡ true → IsFinished false p

-- The core is that of a tile of the scene; and it is short, or it is so.
pub record IsTileClause (scene : Scene) (l : Layout) (this_tile : ℕ) (core : TileCore) (took : ℕ → List Parcel) (heard : List Grant) (parts : List TilePart)
    (ended : Bool) : Type 0 where
  pub decl : decl_of core ≡ scene.decl
  pub layout : layout_of core ≡ l
  pub tile : tile_of core ≡ this_tile
  pub clients : clients_of core ≡ length scene.streams
  pub whole : is_short core ≡ false → (p : Progress) × IsTileAt scene l this_tile core p took heard parts ended

-- it holds of a new core and empty lists
abbrev pub NewTilesMeetTheirClause : Type 0
NewTilesMeetTheirClause = (scene : Scene) (l : Layout) (tile : ℕ) (core : TileCore) (took : ℕ → List Parcel) (heard : List Grant) (parts : List TilePart)
    → decl_of core ≡ scene.decl → layout_of core ≡ l → tile_of core ≡ tile → clients_of core ≡ length scene.streams
    → IsProgressOf core (new_progress (length scene.streams)) → IsNewBoard scene.decl l tile (board_of core)
    → ((client : ℕ) → client < length scene.streams → took client ≡ []) → heard ≡ [] → parts ≡ []
    → IsTileClause scene l tile core took heard parts false

-- and after each step, whatever the items are, with the lists grown by what the step took, heard and showed
abbrev pub TileStepsKeepTheClause : Type 0
TileStepsKeepTheClause = (scene : Scene) (l : Layout) (tile : ℕ) (core : TileCore) (deed : TileDeed) (later : TileCore)
    (took took_later : ℕ → List Parcel) (heard heard_later : List Grant) (parts parts_later : List TilePart) (ended ended_later : Bool)
    → IsTileClause scene l tile core took heard parts ended → IsTileStep core deed later
    → ((client : ℕ) → client < length scene.streams → took_later client ≡ took client ++ option_to_list (taken_of deed client))
    → heard_later ≡ heard ++ option_to_list (granted_of deed)
    → parts_later ≡ parts ++ shown_in (answer_of deed)
    → (ended_later ≡ true → answer_of deed ≡ Ok moved.Ended)
    → IsTileClause scene l tile later took_later heard_later parts_later ended_later

-- and of a core of which contracts see the same
abbrev pub SameViewsKeepTheClause : Type 0
SameViewsKeepTheClause = (scene : Scene) (l : Layout) (tile : ℕ) (core later : TileCore) (took : ℕ → List Parcel) (heard : List Grant)
    (parts : List TilePart) (ended : Bool) → IsTileClause scene l tile core took heard parts ended → IsSameView core later
    → IsTileClause scene l tile later took heard parts ended

-- ---- over lanes

-- A core with its ends of lanes, one from each client and one from the manager; the parts that it has shown, and whether a step has told that it has ended.
pub record TileOverLanes (I J : Type 0) : Type 0 where
  pub core : TileCore
  pub clients : List I
  pub grants : J
  pub parts : List TilePart
  pub ended : Bool

-- the clause, over what these lanes gave
abbrev pub IsTileClauseOver : {I J : Type 0} → (I → List Parcel) → (J → List Grant) → Scene → Layout → ℕ → I → TileOverLanes I J → Type 0
IsTileClauseOver {I} {J} taken heard scene l tile d t =
    IsTileClause scene l tile t.core (λ client. taken (slice_index_or t.clients client d)) (heard t.grants) t.parts t.ended

module _ {I J : Type 0} (gave : I → Parcel → I → Type 0) (same : I → I → Type 0) (gave_grant : J → Grant → J → Type 0) (same_grant : J → J → Type 0) where
  -- a step, with what it took of the lanes and showed
  pub record StepOverLanes (deed : TileDeed) (before after : TileOverLanes I J) : Type 0 where
    pub count : length before.clients ≡ clients_of before.core
    pub step : IsTileStep before.core deed after.core
    pub took : AreTaken gave same deed before.clients after.clients
    pub learnt : IsHeard gave_grant same_grant deed before.grants after.grants
    pub showed : after.parts ≡ before.parts ++ shown_in (answer_of deed)
    pub ends : after.ended ≡ true → answer_of deed ≡ Ok moved.Ended

  -- after each step the clause holds, with what the lanes gave
  abbrev pub TileStepsOverLanesKeepTheClause : Type 0
  TileStepsOverLanesKeepTheClause = (taken : I → List Parcel) (heard : J → List Grant) → Follows gave same taken → Follows gave_grant same_grant heard
      → (scene : Scene) (l : Layout) (tile : ℕ) (d : I) (deed : TileDeed) (before after : TileOverLanes I J)
      → IsTileClauseOver taken heard scene l tile d before → StepOverLanes deed before after → IsTileClauseOver taken heard scene l tile d after

-- ---- the end

-- The tile is right for the scene and the journal, and done.
pub record IsTileDone (scene : Scene) (l : Layout) (this_tile : ℕ) (journal : List Entry) (core : TileCore) (parts : List TilePart) : Type 0 where
  pub progress : Progress
  pub right : IsTileRight scene l this_tile journal core progress parts
  pub done : IsDone (sync_lists_of scene) journal progress

-- so it is where it has ended, isn't short, and took and heard fronts
abbrev pub EndedTilesAreDone : Type 0
EndedTilesAreDone = (scene : Scene) (l : Layout) (tile : ℕ) (core : TileCore) (took : ℕ → List Parcel) (heard : List Grant) (parts : List TilePart) (journal : List Entry)
    → IsInRange scene → HasSides scene.decl → IsTileClause scene l tile core took heard parts true → is_short core ≡ false → IsLegal (sync_lists_of scene) journal
    → ((client : ℕ) → client < length scene.streams → IsFront (took client) (parcels_of scene l client tile)) → IsFront heard (all_grants journal)
    → IsTileDone scene l tile journal core parts

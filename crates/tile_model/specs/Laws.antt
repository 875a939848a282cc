-- Laws of tiles.
use Rattle.std.specs.Prelude.{◌≡◌, ℕ, ◌+◌, ◌<◌, ◌≤◌, ◌∷◌, ◌++◌, Bool, true, List, [], length, None, Some, slice_get, take, pos}
use Rattle.std.specs.List.{AllByRecursion}
use Rattle.rc_base.specs.Formats.Limits.{limit_of}
use Rattle.rc_base.specs.Formats.Spelling.{IsDecl}
use Rattle.rc_base.specs.Contexts.Issue.{stream_of}
use Rattle.rc_base.specs.Drawing.Serial.{Canvas, frame_pixel, canvas_after, textures_step, pixel_step}
use Rattle.rc_base.specs.Drawing.Texel.{SharedTexels}
use Rattle.rc_base.specs.Cluster.Parcels.{parcels_at, parcels_before, parcels_of}
use Rattle.rc_base.specs.declared.state.Parcel.{Parcel}
use Rattle.rc_base.specs.declared.sync.Name.{Name}
use Rattle.rc_base.specs.declared.sync.SyncLists.{SyncLists}
use Rattle.rc_base.specs.declared.window.Pixel.{Pixel}
use Rattle.rc_base.specs.Cluster.Tiles.{tile_pixels}
use Rattle.rc_base.specs.Orders.Journal.{IsLegal, start, is_member}
use Rattle.rc_base.specs.Orders.Sync.{client_count, sync_lists_of}
use Rattle.rc_base.specs.declared.scene.Scene.{Scene}
use Rattle.rc_base.specs.declared.sync.Entry.{Entry}
use Rattle.rc_base.specs.declared.window.Layout.{Layout}
use Rattle.rc_base.specs.declared.sync.Entry.TheVariants.{Swap}
use Rattle.order_model.specs.Log.{Job, Replays, logged, recorded_order}
use Rattle.order_model.specs.declared.record.LogEntry.{LogEntry}
use Rattle.order_model.specs.declared.record.LogEntry.TheVariants.{Performed}
use Rattle.order_model.specs.Board.{Board, StandsFor}
use Rattle.order_model.specs.Gathering.{AreDeclared}
use Rattle.order_model.specs.Report.{frame_count}
use Rattle.order_model.specs.Sent.{jobs_of}
use Rattle.order_model.specs.Standing.{Progress, IsUnderWay, new_progress, performed_in}
use Rattle.tile_model.specs.Boards.{IsNewBoard, IsDrawn}
use Rattle.tile_model.specs.Givable.{is_givable}
use Rattle.tile_model.specs.Scenes.{IsInRange, HasSides}
use Rattle.tile_model.specs.Items.{Item, after_item, IsAwaited, IsItemOf, has_clients, shown_frames}
use Rattle.tile_model.specs.Items.Item.{Due}

-- ---- progress

-- a tile that is under way stays so with every item that is awaited and that is the scene's and the journal's
abbrev pub ItemsKeepProgress : Type 0
ItemsKeepProgress =
    (scene : Scene) (l : Layout) (tile : ℕ) (journal : List Entry) (item : Item) (p : Progress) → IsLegal (sync_lists_of scene) journal
    → IsUnderWay (sync_lists_of scene) journal (λ client. jobs_of scene l client tile) p → IsAwaited p item
    → IsItemOf scene l tile journal p item
    → IsUnderWay (sync_lists_of scene) journal (λ client. jobs_of scene l client tile) (after_item p item)

-- the log of a tile that is under way replays over the jobs that it took of each client and the entries that it learnt
abbrev pub LogsReplayOverWhatWasTaken : Type 0
LogsReplayOverWhatWasTaken =
    (syncs : SyncLists) (journal : List Entry) (jobs : ℕ → List Job) (p : Progress) → IsUnderWay syncs journal jobs p
    → Replays syncs p.learnt (λ client. take (p.taken client) (jobs client)) p.log

-- the members of an entry that passes the test are clients
abbrev pub MembersAreClients : Type 0
MembersAreClients = (n : ℕ) (e : Entry) → has_clients n e ≡ true → (client : ℕ) → is_member n e client ≡ true → client < n

-- and each entry of a legal journal passes it
abbrev pub LegalEntriesHaveClients : Type 0
LegalEntriesHaveClients =
    (syncs : SyncLists) (journal : List Entry) (k : ℕ) (e : Entry) → IsLegal syncs journal → slice_get journal k ≡ Some e
    → has_clients (client_count syncs) e ≡ true

-- each accepted operation of a scene names what is declared
abbrev pub OperationsAreDeclared : Type 0
OperationsAreDeclared = (scene : Scene) → IsInRange scene → AreDeclared (sync_lists_of scene)

-- ---- parcels

-- every parcel of a scene whose commands are in their ranges, and whose shared textures have sides above 0, is givable
abbrev pub ParcelsAreGivable : Type 0
ParcelsAreGivable =
    (scene : Scene) (l : Layout) (client tile count : ℕ) (parcel : Parcel) → IsInRange scene → HasSides scene.decl
    → slice_get (parcels_of scene l client tile) count ≡ Some parcel → is_givable scene.decl parcel ≡ true

-- the shared textures of a scene within the limits have sides above 0
abbrev pub LimitsGiveSides : Type 0
LimitsGiveSides = (scene : Scene) → IsDecl scene.decl → limit_of scene ≡ None → HasSides scene.decl

-- a client gives a tile at most one parcel for each of its commands, and End
abbrev pub ParcelsAreFew : Type 0
ParcelsAreFew = (scene : Scene) (l : Layout) (client tile : ℕ) → length (parcels_of scene l client tile) ≤ length (stream_of scene client) + 1

-- ---- boards

-- the command of a name gives the tile no parcel
abbrev pub GivesNothing : Scene → Layout → ℕ → Name → Type 0
GivesNothing scene l tile n = parcels_at scene l n.client tile n.place (parcels_before scene l n.client tile n.place) ≡ []

-- Names that give a tile no parcel leave each of its pixels, and all shared textures, as they were: at any pixel of the tile, whatever is shown, an
-- order of such names leaves the canvas that it found.
abbrev pub NamesWithoutParcelsChangeNothing : Type 0
NamesWithoutParcelsChangeNothing =
    (scene : Scene) (l : Layout) (tile : ℕ) (names : List Name) (shown : Name → Bool) (x y : ℕ) (canvas : Canvas SharedTexels Pixel)
    → AllByRecursion (GivesNothing scene l tile) names → tile_pixels l tile x y ≡ true
    → canvas_after (textures_step scene) (λ n shared old. pixel_step scene n shared (pos x) (pos y) old) shown canvas names ≡ canvas

-- a new tile stands for every scene with its declaration and number of clients, and for every journal
abbrev pub NewTilesStand : Type 0
NewTilesStand =
    (scene : Scene) (l : Layout) (tile : ℕ) (journal : List Entry) (b : Board) → IsNewBoard scene.decl l tile b
    → StandsFor scene l tile journal (new_progress (length scene.streams)) b

-- A tile that stands for such a scene and a legal journal stands for them after every item that is awaited and that is theirs, where its board
-- is what the item makes of it.
abbrev pub StepsStand : Type 0
StepsStand =
    (scene : Scene) (l : Layout) (tile : ℕ) (journal : List Entry) (item : Item) (p : Progress) (before now : Board) → IsInRange scene
    → HasSides scene.decl → IsLegal (sync_lists_of scene) journal → StandsFor scene l tile journal p before
    → IsAwaited p item → IsItemOf scene l tile journal p item
    → IsDrawn scene.decl l tile p item before now → StandsFor scene l tile journal (after_item p item) now

-- ---- frames

-- the names that a log has added
abbrev pub added_names : SyncLists → List Entry → List LogEntry → List Name
added_names syncs journal log = logged syncs (start syncs) journal log []

-- A tile that performs a Swap has on its board, at each of its pixels, the frame of that number, whatever its log goes on with: in an order that
-- the longer log comes to,
abbrev pub ShowFrames : (SyncLists → List Entry → List LogEntry → List Name) → Type 0
ShowFrames order =
    (scene : Scene) (l : Layout) (tile : ℕ) (journal : List Entry) (p : Progress) (b : Board) (more : List LogEntry)
    → IsLegal (sync_lists_of scene) journal → StandsFor scene l tile journal p b → IsAwaited p (Due Swap)
    → Replays (sync_lists_of scene) journal (λ client. jobs_of scene l client tile) (p.log ++ Performed ∷ more)
    → (x y : ℕ) → tile_pixels l tile x y ≡ true
    → b.pixel (pos x) (pos y)
    ≡ frame_pixel scene (order (sync_lists_of scene) journal (p.log ++ Performed ∷ more)) (shown_frames p + 1) (pos x) (pos y)

-- that of the names that it has added by then
abbrev pub SwapsShowAddedNames : Type 0
SwapsShowAddedNames = ShowFrames added_names

-- and the whole one that it records
abbrev pub SwapsShowFrames : Type 0
SwapsShowFrames = ShowFrames recorded_order

-- Names that are added later change nothing of a frame whose Swap a log has performed: neither those that it adds as it goes on, nor those that the order
-- which it records has behind them.
abbrev pub SwappedFramesStay : Type 0
SwappedFramesStay =
    (scene : Scene) (l : Layout) (tile : ℕ) (journal : List Entry) (log more : List LogEntry) (k x y : ℕ) → IsLegal (sync_lists_of scene) journal
    → Replays (sync_lists_of scene) journal (λ client. jobs_of scene l client tile) (log ++ more) → k ≤ frame_count (take (performed_in log) journal)
    → (frame_pixel scene (added_names (sync_lists_of scene) journal (log ++ more)) k (pos x) (pos y)
    ≡ frame_pixel scene (added_names (sync_lists_of scene) journal log) k (pos x) (pos y))
    × (frame_pixel scene (recorded_order (sync_lists_of scene) journal (log ++ more)) k (pos x) (pos y)
    ≡ frame_pixel scene (added_names (sync_lists_of scene) journal log) k (pos x) (pos y))

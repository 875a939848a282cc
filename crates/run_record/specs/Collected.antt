-- What is collected of cores that have ended.
use Rattle.std.specs.Prelude.{◌≡◌, ℕ, ◌<◌, ◌≤◌, ◌^◌, ◌+◌, ◌↔◌, IsSome, IfSome, List, length, Option, Vec}
use Rattle.std.specs.Global.{Global}
use Rattle.rc_base.specs.Contexts.Issue.{stream_of}
use Rattle.rc_base.specs.Orders.Book.{Book, waiting_in}
use Rattle.rc_base.specs.declared.cluster.Tally.{Tally}
use Rattle.rc_base.specs.declared.cluster.TilePart.{TilePart}
use Rattle.rc_base.specs.declared.scene.Decl.{Decl}
use Rattle.rc_base.specs.declared.scene.Scene.{Scene}
use Rattle.rc_base.specs.declared.state.Fault.{Fault}
use Rattle.rc_base.specs.declared.sync.SyncLists.{SyncLists}
use Rattle.rc_base.specs.declared.sync.Waiting.{Waiting}
use Rattle.rc_base.specs.Cluster.Tiles.{tile_count}
use Rattle.rc_base.specs.declared.window.Layout.{Layout}
use Rattle.order_model.specs.Report.{frame_count}
use Rattle.client_issue.specs.declared.client.ClientCore.{ClientCore}
use Rattle.order_model.specs.declared.record.Record.{Record}
use Rattle.sync_manager.specs.Books.{IsBookOf, IsStuck}
use Rattle.sync_manager.specs.Cores.{book_of, IsProgressOf}
use Rattle.sync_manager.specs.Progress.{ManagerProgress}
use Rattle.sync_manager.specs.Stored.{wait_at}
use Rattle.sync_manager.specs.declared.manager.ManagerCore.{ManagerCore}
use Rattle.tile_model.specs.Scenes.{IsInRange, HasSides}
use Rattle.tile_server.specs.declared.tile_core.TileCore.{TileCore}
use Rattle.run_record.specs.Closed.{AreClosed, AreDone}
use Rattle.rc_base.specs.Lists.{ArePaired}
use Rattle.run_record.specs.Gathering.{IsLogOf, IsRowOf, AreFaultsOf, AreSums, AreEven, AreInFrames, shown_by}
use Rattle.run_record.specs.Told.{AreFrameParts, HaveFrames, IsRun}

-- there is a tile, and each tile has shown as many frames
pub record AreShownAlike (lists : List (Vec TilePart Global)) : Type 0 where
  pub frames : ℕ
  pub even : AreEven frames lists
  pub some : 0 < length lists

-- What the calls that take cores apart say: the clients' lists, the manager's journal, the tiles' logs, and who is stuck.
pub record AreCollected (decl : Decl) (clients : List ClientCore) (core : ManagerCore) (tiles : List TileCore)
    (kept : Record) (tallies : List Tally) (waiting : Option Waiting) (faults : List (List (ℕ × Fault))) : Type 0 where
  pub rows : ArePaired IsRowOf clients kept.syncs.clients
  pub counts : kept.syncs.counts ≡ decl.barriers
  pub units : kept.syncs.units ≡ decl.semaphores
  pub faults_are : ArePaired AreFaultsOf clients faults
  pub sums : AreSums clients (length tiles) tallies
  pub logs : ArePaired IsLogOf tiles kept.logs
  pub journal : (syncs : SyncLists) (d : ManagerProgress) → IsProgressOf syncs core d → kept.journal ≡ d.book.journal
  pub stuck : (syncs : SyncLists) (b : Book) → IsBookOf syncs (book_of core) b → IsSome waiting ↔ IsStuck syncs b
  pub waits : IfSome waiting (λ w. (syncs : SyncLists) (b : Book) → IsBookOf syncs (book_of core) b
      → (client : ℕ) → wait_at w.at client ≡ waiting_in syncs b client)

-- a scene within the limits has 1 to 8 clients, and few commands of each
pub record IsSmall (scene : Scene) : Type 0 where
  pub some : 0 < length scene.streams
  pub few : length scene.streams ≤ 8
  pub short : (client : ℕ) → length (stream_of scene client) < 2 ^ 20 + 1

-- ---- the laws

-- It is the run of the scene, and each tile has shown its frames.
pub record IsWholeRun (scene : Scene) (l : Layout) (kept : Record) (tallies : List Tally) (waiting : Option Waiting) (faults : List (List (ℕ × Fault)))
    (shown : ℕ → List TilePart) : Type 0 where
  pub run : IsRun scene l kept tallies waiting faults
  pub frames : HaveFrames scene l kept shown

abbrev pub DoneRunsAreRecorded : Type 0
DoneRunsAreRecorded = (scene : Scene) (l : Layout) (clients : List ClientCore) (core : ManagerCore) (tiles : List TileCore) (shown : ℕ → List TilePart)
    (kept : Record) (tallies : List Tally) (waiting : Option Waiting) (faults : List (List (ℕ × Fault)))
    → IsSmall scene → AreDone scene l clients core tiles shown → AreCollected scene.decl clients core tiles kept tallies waiting faults
    → IsWholeRun scene l kept tallies waiting faults shown

abbrev pub ClosedRunsAreLawful : Type 0
ClosedRunsAreLawful = (scene : Scene) (l : Layout) (clients : List ClientCore) (core : ManagerCore) (tiles : List TileCore) (shown : ℕ → List TilePart)
    (kept : Record) (tallies : List Tally) (waiting : Option Waiting) (faults : List (List (ℕ × Fault)))
    → IsSmall scene → IsInRange scene → HasSides scene.decl → AreClosed scene l clients core tiles shown
    → AreCollected scene.decl clients core tiles kept tallies waiting faults → IsWholeRun scene l kept tallies waiting faults shown

-- Where the parts of such a run stand in lists, they are the frames' parts once they are taken frame by frame.
abbrev pub FramesAreInOrder : Type 0
FramesAreInOrder = (scene : Scene) (l : Layout) (kept : Record) (lists : List (Vec TilePart Global)) (parts : List TilePart)
    → HaveFrames scene l kept (shown_by lists) → length lists ≡ tile_count l → AreInFrames (frame_count kept.journal) lists parts → AreFrameParts scene l kept parts

-- Laws above the definitions of journals, orders and logs.
use Rattle.std.specs.Prelude.{◌≡◌, ℕ, ◌<◌, ◌≤◌, Bool, List, [], ◌++◌, length, ◌↔◌, Some, None, slice_get, ℤ, pos}
use Rattle.rc_base.specs.Lists.{at_name}
use Rattle.rc_base.specs.Formats.Netpbm.{p6_texts}
use Rattle.rc_base.specs.Contexts.Issue.{stream_of}
use Rattle.rc_base.specs.Drawing.Images.{frame_images}
use Rattle.rc_base.specs.Drawing.Serial.{painted, textures_after, frame_pixel}
use Rattle.rc_base.specs.Orders.Book.{Book, BookEvent, opened, standing, book_after_all, AreEvents, IsLegalBook}
use Rattle.rc_base.specs.Orders.Footprints.{IsOrderedScene}
use Rattle.rc_base.specs.Orders.Grant.{grant}
use Rattle.rc_base.specs.Orders.Journal.{SyncState, IsLawful, NothingIsLawful, IsLegal, IsMaximal, waiting_of, reach_of}
use Rattle.rc_base.specs.Orders.Order.{IsPermitted, IsOrdered, names_from, default_journal, default_order}
use Rattle.rc_base.specs.Orders.Sync.{IsWellFormed, client_count, sync_lists_of}
use Rattle.rc_base.specs.Cluster.Tiles.{tile_count}
use Rattle.rc_base.specs.declared.scene.Scene.{Scene}
use Rattle.rc_base.specs.declared.sync.Entry.{Entry}
use Rattle.rc_base.specs.declared.sync.Name.{Name}
use Rattle.rc_base.specs.declared.sync.SyncLists.{SyncLists}
use Rattle.rc_base.specs.declared.window.Layout.{Layout}
use Rattle.rc_base.specs.declared.window.Pixel.{Pixel}
use Rattle.order_model.specs.Commuting.{Drawing, IsLocal, pixel_after}
use Rattle.order_model.specs.Full.{IsFull}
use Rattle.order_model.specs.Log.{Job, AreJobsOf, Replays, IsComplete, IsLawfulRecord, recorded_order}
use Rattle.order_model.specs.Report.{tile_order, frame_count, image_text_of}
use Rattle.order_model.specs.Sent.{jobs_of, IsRecordOf}
use Rattle.order_model.specs.Uncontended.{TakesAlone, IsUncontended}
use Rattle.order_model.specs.declared.record.LogEntry.{LogEntry}
use Rattle.order_model.specs.declared.record.Record.{Record}

-- ---- scenes

-- a scene has a client, and each of its barriers counts one client or more: so it is within the limits
abbrev pub SceneListsAreWellFormed : Type 0
SceneListsAreWellFormed =
    (scene : Scene) → 0 < length scene.streams → ((barrier count : ℕ) → at_name scene.decl.barriers barrier ≡ Some count → 0 < count)
    → IsWellFormed (sync_lists_of scene)

-- ---- journals

abbrev pub PrefixesAreLegal : Type 0
PrefixesAreLegal = (syncs : SyncLists) (journal more : List Entry) → IsLegal syncs (journal ++ more) → IsLegal syncs journal

-- no client beyond the last one has operations
abbrev pub AreOfClients : SyncLists → SyncState → Type 0
AreOfClients syncs s = (client : ℕ) → client_count syncs ≤ client → s.rest client ≡ []

abbrev pub GrantsAreLawful : Type 0
GrantsAreLawful = (syncs : SyncLists) (s : SyncState) (e : Entry) → grant syncs s ≡ Some e → IsLawful syncs s e

abbrev pub NothingIsGrantedExactlyWhereNoneIsLawful : Type 0
NothingIsGrantedExactlyWhereNoneIsLawful = (syncs : SyncLists) (s : SyncState) → AreOfClients syncs s → (grant syncs s ≡ None) ↔ NothingIsLawful syncs s

abbrev pub DefaultJournalIsMaximal : Type 0
DefaultJournalIsMaximal = (syncs : SyncLists) → IsWellFormed syncs → IsMaximal syncs (default_journal syncs)

-- Where one client takes from each semaphore, and no barrier is named by more clients than it counts, all maximal journals leave the same clients waiting
-- at the same operations, and reach the same places.
abbrev pub MaximalJournalsEndAlike : Type 0
MaximalJournalsEndAlike =
    (syncs : SyncLists) → IsWellFormed syncs → TakesAlone syncs → (journal other : List Entry) → IsMaximal syncs journal → IsMaximal syncs other
    → (client : ℕ) → (waiting_of syncs journal client ≡ waiting_of syncs other client) × (reach_of syncs journal client ≡ reach_of syncs other client)

-- Where besides one client gives to each semaphore that is taken from, they permit the same orders.
abbrev pub MaximalJournalsAgree : Type 0
MaximalJournalsAgree =
    (syncs : SyncLists) → IsWellFormed syncs → IsUncontended syncs → (journal other : List Entry) → IsMaximal syncs journal → IsMaximal syncs other
    → (order : List Name) → IsPermitted syncs journal order ↔ IsPermitted syncs other order

-- where nothing takes a unit and all clients meet at each barrier, nobody contends
abbrev pub FullScenesAreUncontended : Type 0
FullScenesAreUncontended = (syncs : SyncLists) → IsFull syncs → IsUncontended syncs

-- ---- books

-- what happens to a legal book leaves it legal: a new one is, so it is legal ever after
abbrev pub BooksStayLegal : Type 0
BooksStayLegal = (syncs : SyncLists) (b : Book) (events : List BookEvent) → IsLegalBook syncs b → IsLegalBook syncs (book_after_all syncs b events)

-- a book of clients' operations grants nothing exactly where no entry is lawful by what arrived, and so it does after lawful events
abbrev pub BooksGrantWhatIsLawful : Type 0
BooksGrantWhatIsLawful =
    (syncs : SyncLists) (b : Book) (events : List BookEvent) → AreOfClients syncs (opened syncs b) → AreEvents syncs b events
    → (grant syncs (standing syncs (book_after_all syncs b events)) ≡ None) ↔ NothingIsLawful syncs (standing syncs (book_after_all syncs b events))

-- ---- orders

abbrev pub DefaultOrdersArePermitted : Type 0
DefaultOrdersArePermitted =
    (syncs : SyncLists) (journal : List Entry) → IsWellFormed syncs → IsLegal syncs journal → IsPermitted syncs journal (default_order syncs journal)

-- one client's names have one permitted order: those below its reach, rising
abbrev pub OneClientHasOneOrder : Type 0
OneClientHasOneOrder =
    (syncs : SyncLists) (journal : List Entry) (order : List Name) → IsWellFormed syncs → client_count syncs ≡ 1 → IsLegal syncs journal
    → IsPermitted syncs journal order ↔ (order ≡ names_from 0 0 (reach_of syncs journal 0))

abbrev pub RecordedOrdersArePermitted : Type 0
RecordedOrdersArePermitted =
    (syncs : SyncLists) (journal : List Entry) (jobs : ℕ → List Job) (log : List LogEntry) → IsWellFormed syncs → IsLegal syncs journal → AreJobsOf syncs jobs
    → Replays syncs journal jobs log → IsComplete syncs journal jobs log → IsPermitted syncs journal (recorded_order syncs journal log)

abbrev pub LawfulRecordsArePermitted : Type 0
LawfulRecordsArePermitted =
    (syncs : SyncLists) (tiles : ℕ) (jobs : ℕ → ℕ → List Job) (kept : Record) → IsWellFormed syncs → ((tile : ℕ) → AreJobsOf syncs (λ client. jobs client tile))
    → IsLawfulRecord syncs tiles jobs kept → (tile : ℕ) (log : List LogEntry) → slice_get kept.logs tile ≡ Some log
    → IsPermitted syncs kept.journal (recorded_order kept.syncs kept.journal log)

-- the shared textures that an order leaves depend neither on the names that are shown nor on the pixel
abbrev pub CanvasTexturesAreTextures : Type 0
CanvasTexturesAreTextures = (scene : Scene) (shown : Name → Bool) (x y : ℤ) (order : List Name) → (painted scene shown x y order).shared ≡ textures_after scene order

-- in an ordered scene all orders that the journal permits leave the same pixels, whatever the commands do and whichever of them are shown
abbrev pub OrderedScenesDrawAlike : Type 0
OrderedScenesDrawAlike =
    (d : Drawing (ℕ × ℕ) Pixel (List ℕ)) → IsLocal d → (syncs : SyncLists) (journal : List Entry) → IsOrdered syncs journal d.uses
    → (order other : List Name) → IsPermitted syncs journal order → IsPermitted syncs journal other
    → (shown : Name → Bool) (p : ℕ × ℕ) (textures : ℕ → List ℕ) (old : Pixel)
    → pixel_after d shown p order textures old ≡ pixel_after d shown p other textures old

-- an ordered scene has the same frames in every permitted order
abbrev pub OrderedScenesHaveOneFrame : Type 0
OrderedScenesHaveOneFrame =
    (scene : Scene) (journal : List Entry) → IsOrderedScene scene journal
    → (order other : List Name) → IsPermitted (sync_lists_of scene) journal order → IsPermitted (sync_lists_of scene) journal other
    → (k x y : ℕ) → x < scene.decl.width → y < scene.decl.height → frame_pixel scene order k (pos x) (pos y) ≡ frame_pixel scene other k (pos x) (pos y)

-- each tile of a lawful record of an ordered scene shows the frames of any permitted order
abbrev pub LawfulRecordsShowOneImage : Type 0
LawfulRecordsShowOneImage =
    (scene : Scene) (tiles : ℕ) (jobs : ℕ → ℕ → List Job) (kept : Record) → IsWellFormed (sync_lists_of scene)
    → ((tile : ℕ) → AreJobsOf (sync_lists_of scene) (λ client. jobs client tile)) → IsLawfulRecord (sync_lists_of scene) tiles jobs kept → IsOrderedScene scene kept.journal
    → (tile : ℕ) (log : List LogEntry) → slice_get kept.logs tile ≡ Some log → (order : List Name) → IsPermitted (sync_lists_of scene) kept.journal order
    → (k x y : ℕ) → x < scene.decl.width → y < scene.decl.height
    → frame_pixel scene (recorded_order kept.syncs kept.journal log) k (pos x) (pos y) ≡ frame_pixel scene order k (pos x) (pos y)

-- what each tile gets of a scene rises, and has exactly the scene's operations
abbrev pub SceneJobsAreSent : Type 0
SceneJobsAreSent = (scene : Scene) (l : Layout) (tile : ℕ) → AreJobsOf (sync_lists_of scene) (λ client. jobs_of scene l client tile)

-- the order that a tile of a lawful record of a scene records is permitted
abbrev pub RecordsOfScenesArePermitted : Type 0
RecordsOfScenesArePermitted =
    (scene : Scene) (l : Layout) (kept : Record) → IsWellFormed (sync_lists_of scene) → IsRecordOf scene l kept
    → (tile : ℕ) → tile < tile_count l → IsPermitted (sync_lists_of scene) kept.journal (tile_order kept tile)

-- where takers are alone, all maximal journals have as many Swaps
abbrev pub MaximalJournalsSwapAlike : Type 0
MaximalJournalsSwapAlike =
    (syncs : SyncLists) → IsWellFormed syncs → TakesAlone syncs → (journal other : List Entry) → IsMaximal syncs journal → IsMaximal syncs other
    → frame_count journal ≡ frame_count other

-- a legal journal of a scene has no more Swaps than the first client has commands
abbrev pub SwapsAreFew : Type 0
SwapsAreFew =
    (scene : Scene) (journal : List Entry) → 0 < length scene.streams → IsLegal (sync_lists_of scene) journal
    → frame_count journal ≤ length (stream_of scene 0)

-- the image text of a run of an ordered scene is that of the frames of any permitted order
abbrev pub OrderedRunsShowOneImage : Type 0
OrderedRunsShowOneImage =
    (scene : Scene) (l : Layout) (kept : Record) → IsWellFormed (sync_lists_of scene) → 0 < tile_count l → IsRecordOf scene l kept → IsOrderedScene scene kept.journal
    → (order : List Name) → IsPermitted (sync_lists_of scene) kept.journal order
    → image_text_of scene l kept ≡ p6_texts (frame_images scene order (frame_count kept.journal))

-- and where nobody contends that of the default order, whatever the tiles and the journal
abbrev pub UncontendedRunsShowTheDefaultImage : Type 0
UncontendedRunsShowTheDefaultImage =
    (scene : Scene) (l : Layout) (kept : Record) → IsWellFormed (sync_lists_of scene) → 0 < tile_count l → IsUncontended (sync_lists_of scene) → IsRecordOf scene l kept
    → IsOrderedScene scene kept.journal
    → image_text_of scene l kept
    ≡ (let journal = default_journal (sync_lists_of scene) in p6_texts (frame_images scene (default_order (sync_lists_of scene) journal) (frame_count journal)))

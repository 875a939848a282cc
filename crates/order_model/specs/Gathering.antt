-- From what each part has done, when nobody moves any more, to a lawful record.
use Rattle.std.specs.Prelude.{◌≡◌, ℕ, ◌<◌, true, List, [], ◌∷◌, ◌++◌, length, map, Some, slice_get}
use Rattle.rc_base.specs.Orders.Book.{Book, waiting_in, is_declared, IsLegalBook, IsBookOver}
use Rattle.rc_base.specs.Orders.Journal.{IsLegal, IsMaximal, waiting_of}
use Rattle.rc_base.specs.Orders.Sync.{ops_of, sync_lists_of}
use Rattle.rc_base.specs.Cluster.Tiles.{tile_count}
use Rattle.rc_base.specs.declared.scene.Scene.{Scene}
use Rattle.rc_base.specs.declared.sync.Entry.{Entry}
use Rattle.rc_base.specs.declared.sync.Grant.{Grant}
use Rattle.rc_base.specs.declared.sync.Grant.TheVariants as grant_item
use Rattle.rc_base.specs.declared.sync.SyncLists.{SyncLists}
use Rattle.rc_base.specs.declared.sync.WaitAt.{WaitAt}
use Rattle.rc_base.specs.declared.window.Layout.{Layout}
use Rattle.order_model.specs.Sent.{jobs_of, IsRecordOf}
use Rattle.order_model.specs.Standing.{Progress, IsUnderWay, IsDone}
use Rattle.order_model.specs.declared.record.Record.{Record}

-- all that a tile is given of a journal
abbrev pub all_grants : List Entry → List Grant
all_grants journal = map (λ e. grant_item.Entry e) journal ++ grant_item.NoMore ∷ []

-- what arrived is a front of the client's operations, all of them where it has ended
pub record HasArrived (syncs : SyncLists) (b : Book) : Type 0 where
  pub front : (client : ℕ) → (more : List WaitAt) × (ops_of syncs client ≡ b.arrived client ++ more)
  pub all : (client : ℕ) → b.ended client ≡ true → b.arrived client ≡ ops_of syncs client

-- The law of gathering: where a legal book is over, and each tile is under way for its journal and done, the journal and the tiles' logs make a
-- lawful record.
abbrev pub GatheringIsLawful : Type 0
GatheringIsLawful =
    (scene : Scene) (l : Layout) (b : Book) (tiles : ℕ → Progress) (kept : Record) → HasArrived (sync_lists_of scene) b
    → IsLegalBook (sync_lists_of scene) b → IsBookOver (sync_lists_of scene) b
    → ((tile : ℕ) → tile < tile_count l
    → IsUnderWay (sync_lists_of scene) b.journal (λ client. jobs_of scene l client tile) (tiles tile) × IsDone (sync_lists_of scene) b.journal (tiles tile))
    → kept.syncs ≡ sync_lists_of scene → kept.journal ≡ b.journal → length kept.logs ≡ tile_count l
    → ((tile : ℕ) → tile < tile_count l → slice_get kept.logs tile ≡ Some (tiles tile).log) → IsRecordOf scene l kept

-- each operation names a barrier or a semaphore that is declared
abbrev pub AreDeclared : SyncLists → Type 0
AreDeclared syncs = (client k : ℕ) (w : WaitAt) → slice_get (ops_of syncs client) k ≡ Some w → is_declared syncs w.op ≡ true

-- ---- of a book alone

-- a legal book has a legal journal
abbrev pub LegalBooksHaveLegalJournals : Type 0
LegalBooksHaveLegalJournals = (syncs : SyncLists) (b : Book) → HasArrived syncs b → IsLegalBook syncs b → IsLegal syncs b.journal

-- one that is over has a maximal one
abbrev pub OverBooksAreMaximal : Type 0
OverBooksAreMaximal = (syncs : SyncLists) (b : Book) → HasArrived syncs b → IsLegalBook syncs b → IsBookOver syncs b → IsMaximal syncs b.journal

-- and leaves each client waiting where its journal does
abbrev pub OverBooksWaitAlike : Type 0
OverBooksWaitAlike =
    (syncs : SyncLists) (b : Book) → HasArrived syncs b → IsLegalBook syncs b → IsBookOver syncs b
    → (client : ℕ) → waiting_in syncs b client ≡ waiting_of syncs b.journal client

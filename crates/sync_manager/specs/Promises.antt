-- What is true of the lists of a manager's lanes after any number of its steps.
use Rattle.std.specs.Prelude.{◌≡◌, ℕ, ◌<◌, ◌≤◌, not, Bool, true, false, cond, List, [], ◌∷◌, ◌++◌, length, map, take, option_to_list}
use Rattle.std.specs.List.{list_any}
use Rattle.rc_base.specs.Cluster.Sending.{request_of}
use Rattle.rc_base.specs.Orders.Book.{is_declared, IsBookOver}
use Rattle.rc_base.specs.declared.sync.Grant.{Grant}
use Rattle.rc_base.specs.declared.sync.Grant.TheVariants as grant_item
use Rattle.rc_base.specs.declared.sync.Request.{Request}
use Rattle.rc_base.specs.declared.sync.Request.TheVariants as request
use Rattle.rc_base.specs.declared.sync.SyncLists.{SyncLists}
use Rattle.sync_manager.specs.Progress.{ManagerProgress, new_progress, progress_after, NoMoreComes, IsNextDeed, is_end, taken_of, sent_to}
use Rattle.sync_manager.specs.declared.deed.ManagerDeed.{ManagerDeed}
use Rattle.sync_manager.specs.declared.deed.ManagerDeed.TheVariants.{Finishes}

-- the request is End, or for what isn't declared
abbrev pub ends_client : SyncLists → Request → Bool
ends_client syncs (request.Op place op) = not (is_declared syncs op)
ends_client syncs request.End = true

-- the entries, and NoMore behind them where it was told
abbrev pub grants_of : ManagerProgress → ℕ → List Grant
grants_of d tile = map (λ e. grant_item.Entry e) (take (d.delivered tile) d.book.journal) ++ cond (d.told tile) (grant_item.NoMore ∷ []) []

-- What was appended for a tile is a prefix of the journal, or that and then NoMore. Where NoMore was, the prefix is the whole journal; and by a
-- manager that isn't short, the book is over.
pub record IsSentRight (syncs : SyncLists) (d : ManagerProgress) (tile : ℕ) (sent : List Grant) : Type 0 where
  pub grants : sent ≡ grants_of d tile
  pub within : d.delivered tile ≤ length d.book.journal
  pub whole : d.told tile ≡ true → d.delivered tile ≡ length d.book.journal
  pub over : d.told tile ≡ true → d.short ≡ false → IsBookOver syncs d.book

-- What arrived of a client is a prefix of the requests that were taken of it, all of them while more comes and it hasn't ended. It has ended only
-- where the next of them ends it.
pub record IsTakenRight (syncs : SyncLists) (d : ManagerProgress) (client : ℕ) (took : List Request) : Type 0 where
  pub count : d.taken client ≡ length took
  pub drained : d.drained client ≡ list_any is_end took
  pub rest : List Request
  pub arrived : took ≡ map request_of (d.book.arrived client) ++ rest
  pub ended : d.book.ended client ≡ true → (r : Request) × (more : List Request) × (rest ≡ r ∷ more) × (ends_client syncs r ≡ true)
  pub all : d.book.ended client ≡ false → (NoMoreComes syncs d → ⊥) → rest ≡ []

-- so for each tile and each client
pub record IsManagerRight (syncs : SyncLists) (tiles : ℕ) (took : ℕ → List Request) (sent : ℕ → List Grant) (d : ManagerProgress) : Type 0 where
  pub clients : (client : ℕ) → IsTakenRight syncs d client (took client)
  pub tiles_are : (tile : ℕ) → tile < tiles → IsSentRight syncs d tile (sent tile)

-- a manager that has done nothing is right
abbrev pub NewManagersAreRight : Type 0
NewManagersAreRight = (syncs : SyncLists) (tiles : ℕ) → IsManagerRight syncs tiles (λ client. []) (λ tile. []) new_progress

-- each step leaves it right, with the lists grown by what the step took and appended
abbrev pub StepsKeepManagersRight : Type 0
StepsKeepManagersRight = (syncs : SyncLists) (tiles : ℕ) (took : ℕ → List Request) (sent : ℕ → List Grant) (d : ManagerProgress) (deed : ManagerDeed)
    → IsManagerRight syncs tiles took sent d → IsNextDeed syncs tiles d deed
    → IsManagerRight syncs tiles (λ client. took client ++ option_to_list (taken_of deed client)) (λ tile. sent tile ++ sent_to deed tile) (progress_after syncs d deed)

-- where nothing is left to do, the next step does nothing else
abbrev pub DoneManagersFinish : Type 0
DoneManagersFinish = (syncs : SyncLists) (tiles : ℕ) (d : ManagerProgress) (deed : ManagerDeed)
    → IsNextDeed syncs tiles d Finishes → IsNextDeed syncs tiles d deed → deed ≡ Finishes

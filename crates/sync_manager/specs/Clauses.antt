-- What a manager's core promises of itself and of the lists of its own lane ends alone, whatever the items are.
use Rattle.std.specs.Prelude.{◌≡◌, ℕ, ◌<◌, ◌≤◌, nat_lt, Bool, true, false, cond, List, [], ◌∷◌, ◌++◌, length, map, option_to_list, Ok, slice_index_or}
use Rattle.rc_base.specs.Lists.{IsFront}
use Rattle.rc_base.specs.Cluster.Lanes.{Follows}
use Rattle.rc_base.specs.Cluster.Sending.{request_of}
use Rattle.rc_base.specs.Orders.Book.{IsBookOver}
use Rattle.rc_base.specs.Orders.Sync.{client_count, ops_of}
use Rattle.rc_base.specs.declared.cluster.ManagerMoved.TheVariants as moved
use Rattle.rc_base.specs.declared.sync.Grant.{Grant}
use Rattle.rc_base.specs.declared.sync.Request.{Request}
use Rattle.rc_base.specs.declared.sync.Request.TheVariants as request
use Rattle.rc_base.specs.declared.sync.SyncLists.{SyncLists}
use Rattle.order_model.specs.Gathering.{HasArrived, AreDeclared, all_grants}
use Rattle.sync_manager.specs.Cores.{clients_of, tiles_of, is_short, IsProgressOf, IsManagerStep, AreTaken, AreSent}
use Rattle.sync_manager.specs.Progress.{ManagerProgress, new_progress, answer_of, taken_of, sent_to, IsNextDeed}
use Rattle.sync_manager.specs.Promises.{IsManagerRight}
use Rattle.sync_manager.specs.declared.deed.ManagerDeed.{ManagerDeed}
use Rattle.sync_manager.specs.declared.deed.ManagerDeed.TheVariants.{Finishes}
use Rattle.sync_manager.specs.declared.manager.ManagerCore.{ManagerCore}

-- ---- what goes through its lanes

-- all requests of a client with these operations
abbrev pub requests_by : SyncLists → ℕ → List Request
requests_by syncs client = map request_of (ops_of syncs client) ++ request.End ∷ []

-- the first n of these lists
abbrev pub first_lists : {A : Type 0} → ℕ → (ℕ → List A) → ℕ → List A
first_lists n lists i = cond (nat_lt i n) (lists i) []

-- Where what was taken of each client is a front of its requests, what arrived is a front of its operations.
abbrev pub FrontsArrive : Type 0
FrontsArrive = (syncs : SyncLists) (tiles : ℕ) (took : ℕ → List Request) (sent : ℕ → List Grant) (d : ManagerProgress)
    → AreDeclared syncs → IsManagerRight syncs tiles took sent d
    → ((client : ℕ) → client < client_count syncs → IsFront (took client) (requests_by syncs client))
    → ((client : ℕ) → client_count syncs ≤ client → took client ≡ []) → HasArrived syncs d.book

-- ---- the clause

-- The core stands for some progress, which is right for what was taken of each client and what was appended for each tile; and where it has ended
-- nothing is left to do.
pub record IsManagerClause (syncs : SyncLists) (tiles : ℕ) (core : ManagerCore) (took : ℕ → List Request) (sent : ℕ → List Grant) (ended : Bool) : Type 0 where
  pub tiles_are : tiles_of core ≡ tiles
  pub progress : ManagerProgress
  pub stands : IsProgressOf syncs core progress
  pub right : IsManagerRight syncs tiles (first_lists (client_count syncs) took) sent progress
  pub over : ended ≡ true → IsNextDeed syncs tiles progress Finishes

-- it holds of a new core and empty lists
abbrev pub NewManagersMeetTheirClause : Type 0
NewManagersMeetTheirClause = (syncs : SyncLists) (tiles : ℕ) (core : ManagerCore) (took : ℕ → List Request) (sent : ℕ → List Grant)
    → tiles_of core ≡ tiles → IsProgressOf syncs core new_progress
    → ((client : ℕ) → client < client_count syncs → took client ≡ []) → ((tile : ℕ) → tile < tiles → sent tile ≡ [])
    → IsManagerClause syncs tiles core took sent false

-- and after each step, whatever the items are, with the lists grown by what the step took and appended
abbrev pub ManagerStepsKeepTheClause : Type 0
ManagerStepsKeepTheClause = (syncs : SyncLists) (tiles : ℕ) (core : ManagerCore) (deed : ManagerDeed) (later : ManagerCore)
    (took took_later : ℕ → List Request) (sent sent_later : ℕ → List Grant) (ended ended_later : Bool)
    → IsManagerClause syncs tiles core took sent ended → IsManagerStep core deed later
    → ((client : ℕ) → client < client_count syncs → took_later client ≡ took client ++ option_to_list (taken_of deed client))
    → ((tile : ℕ) → tile < tiles → sent_later tile ≡ sent tile ++ sent_to deed tile)
    → (ended_later ≡ true → answer_of deed ≡ Ok moved.Ended)
    → IsManagerClause syncs tiles later took_later sent_later ended_later

-- ---- over lanes

-- A core with its ends of lanes, one from each client and one to each tile, and whether a step has told that it has ended.
pub record ManagerOverLanes (I O : Type 0) : Type 0 where
  pub core : ManagerCore
  pub requests : List I
  pub grants : List O
  pub ended : Bool

-- the clause, over what these lanes gave and what they were sent
abbrev pub IsManagerClauseOver : {I O : Type 0} → (I → List Request) → (O → List Grant) → SyncLists → ℕ → I → O → ManagerOverLanes I O → Type 0
IsManagerClauseOver {I} {O} taken sent syncs tiles d e m =
    IsManagerClause syncs tiles m.core (λ client. taken (slice_index_or m.requests client d)) (λ tile. sent (slice_index_or m.grants tile e)) m.ended

module _ {I O : Type 0} (gave : I → Request → I → Type 0) (same : I → I → Type 0) (sent : O → List Grant) where
  -- a step, with what it took of the lanes and appended to them
  pub record StepOverLanes (deed : ManagerDeed) (before after : ManagerOverLanes I O) : Type 0 where
    pub clients : length before.requests ≡ clients_of before.core
    pub tiles : length before.grants ≡ tiles_of before.core
    pub step : IsManagerStep before.core deed after.core
    pub took : AreTaken gave same deed before.requests after.requests
    pub appended : AreSent sent deed before.grants after.grants
    pub ends : after.ended ≡ true → answer_of deed ≡ Ok moved.Ended

  -- after each step the clause holds, with what the lanes gave and were sent
  abbrev pub ManagerStepsOverLanesKeepTheClause : Type 0
  ManagerStepsOverLanesKeepTheClause = (taken : I → List Request) → Follows gave same taken
      → (syncs : SyncLists) (tiles : ℕ) (d : I) (e : O) (deed : ManagerDeed) (before after : ManagerOverLanes I O)
      → IsManagerClauseOver taken sent syncs tiles d e before → StepOverLanes deed before after → IsManagerClauseOver taken sent syncs tiles d e after

-- ---- the end

-- What is true of a manager that has ended and isn't short, where what was taken of each client is a front of its requests: the book is over, what
-- arrived are fronts of the operations, and each tile was given the journal and NoMore.
pub record IsManagerDone (syncs : SyncLists) (tiles : ℕ) (sent : ℕ → List Grant) (d : ManagerProgress) : Type 0 where
  pub over : IsBookOver syncs d.book
  pub arrived : HasArrived syncs d.book
  pub grants : (tile : ℕ) → tile < tiles → sent tile ≡ all_grants d.book.journal

abbrev pub EndedManagersAreDone : Type 0
EndedManagersAreDone = (syncs : SyncLists) (tiles : ℕ) (core : ManagerCore) (took : ℕ → List Request) (sent : ℕ → List Grant)
    → AreDeclared syncs → (h : IsManagerClause syncs tiles core took sent true) → is_short core ≡ false
    → ((client : ℕ) → client < client_count syncs → IsFront (took client) (requests_by syncs client))
    → IsManagerDone syncs tiles sent h.progress

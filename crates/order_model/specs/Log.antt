-- A tile's log of what it carried out: when it is right, and the order that it records.
use Rattle.std.specs.Prelude.{◌≡◌, ℕ, ◌+◌, ◌==◌, Bool, true, cond, List, [], ◌∷◌, drop, length, map, Option, Some, None, slice_get, is_some}
use Rattle.rc_base.specs.Lists.{AreRising}
use Rattle.rc_base.specs.Orders.Sync.{client_count, ops_of, length_of, places_of}
use Rattle.rc_base.specs.Orders.Journal.{SyncState, start, after, IsMaximal, waiting_of, reach_of}
use Rattle.rc_base.specs.Orders.Order.{PlacedEntry, entries_of, added, all_added, performed}
use Rattle.rc_base.specs.declared.sync.Entry.{Entry}
use Rattle.rc_base.specs.declared.sync.Name.{Name}
use Rattle.rc_base.specs.declared.sync.SyncLists.{SyncLists}
use Rattle.rc_base.specs.declared.sync.WaitAt.{WaitAt}
use Rattle.order_model.specs.declared.record.LogEntry.{LogEntry}
use Rattle.order_model.specs.declared.record.LogEntry.TheVariants.{Took, Performed}
use Rattle.order_model.specs.declared.record.Record.{Record}

-- ---- what a tile gets of a client

-- a command's work, or an operation of synchronisation, by its place
pub data Job : Type 0 where
  Work : (place : ℕ) → Job
  Wait : (place : ℕ) → Job

abbrev pub job_place : Job → ℕ
job_place (Work place) = place
job_place (Wait place) = place

-- the places of the operations
abbrev pub waits_in : List Job → List ℕ
waits_in [] = []
waits_in (Work place ∷ jobs) = waits_in jobs
waits_in (Wait place ∷ jobs) = place ∷ waits_in jobs

-- the jobs of each client rise in their places, and all operations of the client are among them
pub record AreJobsOf (syncs : SyncLists) (jobs : ℕ → List Job) : Type 0 where
  pub rising : (client : ℕ) → AreRising 0 (map job_place (jobs client)) (length_of syncs client)
  pub all : (client : ℕ) → waits_in (jobs client) ≡ places_of (ops_of syncs client)

-- ---- when a log is right

-- the first of these jobs is j
abbrev pub IsNext : List Job → Job → Type 0
IsNext jobs j = (rest : List Job) × (jobs ≡ j ∷ rest)

-- the jobs that are left where some clients' first one is done
abbrev pub without : (ℕ → Bool) → (ℕ → List Job) → ℕ → List Job
without done jobs client = cond (done client) (drop 1 (jobs client)) (jobs client)

-- Each line is by the jobs and the entries that are left: a Took takes its client's next job, which is work of its place; a Performed carries out
-- the next entry, where the next job of each member is its operation in it.
abbrev pub ReplaysFrom : (ℕ → List Job) → List PlacedEntry → List LogEntry → Type 0
ReplaysFrom jobs ms [] = Unit {0}
ReplaysFrom jobs ms (Took client place ∷ log) = IsNext (jobs client) (Work place) × ReplaysFrom (without (λ c. c == client) jobs) ms log
ReplaysFrom jobs [] (Performed ∷ log) = ⊥
ReplaysFrom jobs (m ∷ ms) (Performed ∷ log) =
    ((c place : ℕ) → m.at c ≡ Some place → IsNext (jobs c) (Wait place)) × ReplaysFrom (without (λ c. is_some (m.at c)) jobs) ms log

abbrev pub Replays : SyncLists → List Entry → (ℕ → List Job) → List LogEntry → Type 0
Replays syncs journal jobs log = ReplaysFrom jobs (entries_of syncs journal) log

-- the jobs that a log leaves, and the entries
abbrev pub jobs_after : (ℕ → List Job) → List PlacedEntry → List LogEntry → ℕ → List Job
jobs_after jobs ms [] = jobs
jobs_after jobs ms (Took client place ∷ log) = jobs_after (without (λ c. c == client) jobs) ms log
jobs_after jobs [] (Performed ∷ log) = jobs_after jobs [] log
jobs_after jobs (m ∷ ms) (Performed ∷ log) = jobs_after (without (λ c. is_some (m.at c)) jobs) ms log

abbrev pub entries_after : List PlacedEntry → List LogEntry → List PlacedEntry
entries_after ms [] = ms
entries_after ms (Took client place ∷ log) = entries_after ms log
entries_after ms (Performed ∷ log) = entries_after (drop 1 ms) log

-- at the operation at which the client is left waiting, else at the end
abbrev pub StandsAt : List Job → Option WaitAt → Type 0
StandsAt jobs None = jobs ≡ []
StandsAt jobs (Some w) = IsNext jobs (Wait w.place)

-- all entries are performed, and each client's jobs are done as far as the journal lets them
pub record IsComplete (syncs : SyncLists) (journal : List Entry) (jobs : ℕ → List Job) (log : List LogEntry) : Type 0 where
  pub entries : entries_after (entries_of syncs journal) log ≡ []
  pub clients : (c : ℕ) → StandsAt (jobs_after jobs (entries_of syncs journal) log c) (waiting_of syncs journal c)

-- ---- the order that it records

-- A Took adds its client's names up to its place, a Performed those of each member, rising, up to its operation, where the order hasn't them yet.
abbrev pub logged : SyncLists → SyncState → List Entry → List LogEntry → List Name → List Name
logged syncs s es [] order = order
logged syncs s es (Took client place ∷ log) order = logged syncs s es log (added client (place + 1) order)
logged syncs s [] (Performed ∷ log) order = logged syncs s [] log order
logged syncs s (e ∷ es) (Performed ∷ log) order = logged syncs (after syncs s e) es log (performed syncs s e order)

-- and at the end each client, rising, adds its rest below its reach
abbrev pub recorded_order : SyncLists → List Entry → List LogEntry → List Name
recorded_order syncs journal log = all_added (λ c. true) (reach_of syncs journal) (client_count syncs) (logged syncs (start syncs) journal log [])

-- ---- the record of a run

-- For a scene's lists and what each client gives to each tile: the lists are the scene's, the journal is maximal, and there is one log for each
-- tile, which replays and is complete.
pub record IsLawfulRecord (syncs : SyncLists) (tiles : ℕ) (jobs : ℕ → ℕ → List Job) (kept : Record) : Type 0 where
  pub lists : kept.syncs ≡ syncs
  pub maximal : IsMaximal syncs kept.journal
  pub count : length kept.logs ≡ tiles
  pub replays : (tile : ℕ) (log : List LogEntry) → slice_get kept.logs tile ≡ Some log → Replays syncs kept.journal (λ client. jobs client tile) log
  pub complete : (tile : ℕ) (log : List LogEntry) → slice_get kept.logs tile ≡ Some log → IsComplete syncs kept.journal (λ client. jobs client tile) log

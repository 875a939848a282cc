-- How far a tile is in what it gets, and when that is right for a scene's jobs and a journal. Nothing about drawing stands here.
use Rattle.std.specs.Prelude.{◌≡◌, ℕ, ◌+◌, ◌<◌, ◌≤◌, ◌==◌, Bool, true, false, cond, List, [], ◌∷◌, ◌++◌, ◌&&◌, ◌||◌, not, ◌↔◌, drop, length, is_some}
use Rattle.rc_base.specs.Orders.Order.{PlacedEntry, entries_of}
use Rattle.rc_base.specs.Orders.Sync.{client_count}
use Rattle.rc_base.specs.declared.sync.Entry.{Entry}
use Rattle.rc_base.specs.declared.sync.SyncLists.{SyncLists}
use Rattle.order_model.specs.Log.{Job, IsNext, Replays}
use Rattle.order_model.specs.Log.Job.{Wait}
use Rattle.order_model.specs.declared.record.LogEntry.{LogEntry}
use Rattle.order_model.specs.declared.record.LogEntry.TheVariants.{Took, Performed}

-- ---- what a log has carried out

-- of a client's jobs, how many
abbrev pub cursor_of : List PlacedEntry → List LogEntry → ℕ → ℕ
cursor_of ms [] client = 0
cursor_of ms (Took taken place ∷ log) client = cond (client == taken) 1 0 + cursor_of ms log client
cursor_of [] (Performed ∷ log) client = cursor_of [] log client
cursor_of (m ∷ ms) (Performed ∷ log) client = cond (is_some (m.at client)) 1 0 + cursor_of ms log client

-- of the journal's entries, how many
abbrev pub performed_in : List LogEntry → ℕ
performed_in [] = 0
performed_in (Took client place ∷ log) = performed_in log
performed_in (Performed ∷ log) = 1 + performed_in log

-- ---- how far a tile is

-- what it took of each client's lane and of the grant lane, and what it carried out
pub record Progress : Type 0 where
  -- how many clients there are
  pub count : ℕ
  -- how many parcels it took of each client
  pub taken : ℕ → ℕ
  -- the client waits at an operation for its entry
  pub held : ℕ → Bool
  -- its End was taken
  pub closed : ℕ → Bool
  -- the entries, in the order in which they came
  pub learnt : List Entry
  -- and then that there is no more
  pub no_more : Bool
  pub log : List LogEntry

abbrev pub new_progress : ℕ → Progress
new_progress n = record { count = n; taken = λ c. 0; held = λ c. false; closed = λ c. false; learnt = []; no_more = false; log = [] }

-- no more comes, and each entry is performed: nothing will be performed any more
abbrev pub is_over : Progress → Bool
is_over p = p.no_more && (performed_in p.log == length p.learnt)

-- it waits for the grant lane
abbrev pub is_listening : Progress → Bool
is_listening p = not p.no_more && (performed_in p.log == length p.learnt)

-- it takes from the client
abbrev pub is_asked : Progress → ℕ → Bool
is_asked p c = not (p.closed c) && (not (p.held c) || is_over p)

-- How far a tile is with one client, by the client's jobs, behind which its End comes: `cursor` of them are carried out, `taken` parcels were taken.
pub record IsClientAt (jobs : List Job) (cursor taken : ℕ) (held closed over : Bool) : Type 0 where
  pub within : taken ≤ length jobs + 1
  -- a client is held by the operation at its cursor
  pub holds : held ≡ true → (place : ℕ) × IsNext (drop cursor jobs) (Wait place)
  -- its parcels up to that one were taken, and later ones only where nothing will be performed any more
  pub taken_so : held ≡ true → cursor + 1 ≤ taken
  pub no_more_so : held ≡ true → over ≡ false → taken ≡ cursor + 1
  -- of any other client all that was taken is carried out, but its End
  pub unheld : held ≡ false → closed ≡ false → cursor ≡ taken
  pub ended : held ≡ false → closed ≡ true → cursor ≡ length jobs
  -- it is closed exactly where all was taken
  pub all_taken : (closed ≡ true) ↔ (taken ≡ length jobs + 1)

-- How far a tile is, for the jobs of each client and a journal: it learnt a front of the journal and has performed all of that or all but the
-- last, its log replays, and it is right with each client.
pub record IsUnderWay (syncs : SyncLists) (journal : List Entry) (jobs : ℕ → List Job) (p : Progress) : Type 0 where
  pub count : p.count ≡ client_count syncs
  pub learnt : (more : List Entry) × (journal ≡ p.learnt ++ more)
  pub performed : performed_in p.log ≤ length p.learnt
  pub known : length p.learnt ≤ performed_in p.log + 1
  pub replays : Replays syncs journal jobs p.log
  pub clients : (c : ℕ) → IsClientAt (jobs c) (cursor_of (entries_of syncs journal) p.log c) (p.taken c) (p.held c) (p.closed c) (is_over p)

-- all of the journal is learnt and performed, and all clients are closed
pub record IsDone (syncs : SyncLists) (journal : List Entry) (p : Progress) : Type 0 where
  pub learnt : p.learnt ≡ journal
  pub performed : performed_in p.log ≡ length p.learnt
  pub closed : (c : ℕ) → c < client_count syncs → p.closed c ≡ true

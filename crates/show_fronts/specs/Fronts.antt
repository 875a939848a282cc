-- The first frames of a scene and of a record: what stands up to each client's n-th accepted Swap, that included.
use Rattle.std.specs.Prelude.{ℕ, zero, suc, nat_lt, Bool, cond, List, [], ◌∷◌, length, map, take}
use Rattle.std.specs.List.{range_with_len}
use Rattle.rc_base.specs.Contexts.Issue.{stream_of}
use Rattle.rc_base.specs.Drawing.Serial.{accepted_swaps}
use Rattle.rc_base.specs.Orders.Journal.{how_many}
use Rattle.rc_base.specs.Orders.Sync.{sync_lists_of}
use Rattle.rc_base.specs.declared.scene.Scene.{Scene}
use Rattle.rc_base.specs.declared.sync.Entry.{Entry}
use Rattle.rc_base.specs.declared.sync.Name.{Name}
use Rattle.order_model.specs.Report.{is_swap_entry}
use Rattle.order_model.specs.declared.record.LogEntry.{LogEntry}
use Rattle.order_model.specs.declared.record.LogEntry.TheVariants.{Took, Performed}
use Rattle.order_model.specs.declared.record.Record.{Record}

-- ---- of a scene

-- the name is one of the first n frames: fewer than n accepted Swaps of its client stand before it
abbrev pub is_in_front : Scene → ℕ → Name → Bool
is_in_front scene n name = nat_lt (accepted_swaps scene name.client name.place) n

-- how many of a client's commands are: where its stream is cut
abbrev pub front_end : Scene → ℕ → ℕ → ℕ
front_end scene n client = how_many (λ place. is_in_front scene n record { client = client; place = place }) (length (stream_of scene client))

-- the scene of the first n frames: each stream is cut behind its n-th accepted Swap, and is whole where it has fewer
abbrev pub front : ℕ → Scene → Scene
front n scene = record scene { streams = map (λ client. take (front_end scene n client) (stream_of scene client)) (range_with_len 0 (length scene.streams)) }

-- ---- of a record

-- how many Swaps are still to come behind an entry, of so many and one more
abbrev pub swaps_behind : Entry → ℕ → ℕ
swaps_behind e n = cond (is_swap_entry e) n (suc n)

-- the journal up to its n-th Swap, that included
abbrev pub front_journal : ℕ → List Entry → List Entry
front_journal n [] = []
front_journal zero (e ∷ journal) = []
front_journal (suc n) (e ∷ journal) = e ∷ front_journal (swaps_behind e n) journal

-- a tile's log up to where it performs the journal's n-th Swap
abbrev pub front_log : ℕ → List Entry → List LogEntry → List LogEntry
front_log n journal [] = []
front_log zero journal (line ∷ log) = []
front_log (suc n) journal (Took client place ∷ log) = Took client place ∷ front_log (suc n) journal log
front_log (suc n) [] (Performed ∷ log) = Performed ∷ front_log (suc n) [] log
front_log (suc n) (e ∷ journal) (Performed ∷ log) = Performed ∷ front_log (swaps_behind e n) journal log

-- the record of the first n frames of a scene: its journal and each log are cut there
abbrev pub front_record : Scene → ℕ → Record → Record
front_record scene n kept = record {
  journal = front_journal n kept.journal;
  logs = map (front_log n kept.journal) kept.logs;
  syncs = sync_lists_of (front n scene);
}

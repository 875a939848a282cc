-- What walks along journals and orders count: the operations that each client has used, and the names of each client.
use Rattle.std.specs.Prelude.{◌≡◌, ℕ, ◌+◌, ◌<◌, ◌≤◌, Bool, cond, List, [], ◌∷◌, take, drop, length, slice_get, slice_index, Option, option_map}
use Rattle.std.specs.Option.{option_map_or}
use Rattle.rc_base.specs.Orders.Sync.{client_count, ops_of, length_of}
use Rattle.rc_base.specs.Orders.Journal.{is_member, sync_state_after}
use Rattle.rc_base.specs.Orders.Order.{names_in}
use Rattle.rc_base.specs.declared.sync.Entry.{Entry}
use Rattle.rc_base.specs.declared.sync.Name.{Name}
use Rattle.rc_base.specs.declared.sync.SyncLists.{SyncLists}
use Rattle.rc_base.specs.declared.sync.WaitAt.{WaitAt}
use Rattle.order_model.specs.Log.{logged}
use Rattle.order_model.specs.declared.record.LogEntry.{LogEntry}
use Rattle.order_model.specs.declared.record.LogEntry.TheVariants.{Performed}
use Rattle.order_model.specs.declared.recorded.Recording.{Recording}

-- how many entries use an operation of the client, of n clients
abbrev pub used_by : ℕ → ℕ → List Entry → ℕ
used_by n client [] = 0
used_by n client (e ∷ es) = cond (is_member n e client) 1 0 + used_by n client es

-- the place of the operation of this number, if there is one
abbrev pub place_at : List WaitAt → ℕ → Option ℕ
place_at ops number = option_map (λ (w : WaitAt). w.place) (slice_get ops number)

-- the same, else the end of the stream
abbrev pub place_or : List WaitAt → ℕ → ℕ → ℕ
place_or ops number end = option_map_or (λ (w : WaitAt). w.place) (slice_get ops number) end

-- the place of the client's operation of this number, else the end of its stream
abbrev pub place_or_end : SyncLists → ℕ → ℕ → ℕ
place_or_end syncs client number = place_or (ops_of syncs client) number (length_of syncs client)

-- how many operations each client uses in these entries
abbrev pub AreUsed : SyncLists → List Entry → List ℕ → Type 0
AreUsed syncs entries used = (client : ℕ) → client < 8 → slice_index used client ≡ used_by (client_count syncs) client entries

-- each of these clients has used one operation more, and of the eight no other
abbrev pub HaveUsedOneMore : (ℕ → Bool) → List ℕ → List ℕ → Type 0
HaveUsedOneMore are before after =
    (client : ℕ) → client < 8 → slice_index after client ≡ cond (are client) (slice_index before client + 1) (slice_index before client)

-- how many names each client has in an order
abbrev pub AreCounts : List Name → List ℕ → Type 0
AreCounts order counts = (client : ℕ) → names_in client order ≡ slice_index counts client

-- the same, and the lists are of at most eight clients
pub record AreCountsFor (syncs : SyncLists) (order : List Name) (counts : List ℕ) : Type 0 where
  pub clients : client_count syncs ≤ 8
  pub names : AreCounts order counts

-- so many entries of a journal are read, and this order is made: the operations that each client has used, and the names of each in the order
pub record IsOrderMade (syncs : SyncLists) (journal : List Entry) (read : ℕ) (used counts : List ℕ) (order : List Name) : Type 0 where
  pub within : read ≤ length journal
  pub clients : length used ≡ 8
  pub operations : AreUsed syncs (take read journal) used
  pub names : AreCounts order counts

-- what a log makes of the order, where so many entries of the journal are read
abbrev pub logged_behind : SyncLists → List Entry → ℕ → List LogEntry → List Name → List Name
logged_behind syncs journal read log order = logged syncs (sync_state_after syncs (take read journal)) (drop read journal) log order

-- ---- what is read of a log and its journal

-- the recording has read so many entries of the journal, and counts what its order has
abbrev pub IsRecording : SyncLists → List Entry → Recording → Type 0
IsRecording syncs journal r = IsOrderMade syncs journal r.read r.used r.counts r.order

-- any log makes of the one recording what it makes of the other once the next entry is performed
abbrev pub HasPerformed : SyncLists → List Entry → Recording → Recording → Type 0
HasPerformed syncs journal before after =
    (log : List LogEntry) → logged_behind syncs journal after.read log after.order ≡ logged_behind syncs journal before.read (Performed ∷ log) before.order

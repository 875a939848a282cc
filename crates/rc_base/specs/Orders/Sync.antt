-- What a scene says of synchronisation: each client's operations with their places, the barriers' counts, the semaphores' first units.
use Rattle.std.specs.Prelude.{◌≡◌, ℕ, zero, suc, ◌<◌, List, [], ◌∷◌, ◌++◌, length, slice_get, Option, Some, map}
use Rattle.std.specs.List.{range_with_len}
use Rattle.std.specs.Option.{unwrap_or}
use Rattle.rc_base.specs.Lists.{at_name, AreRising}
use Rattle.rc_base.specs.Contexts.Issue.{stream_of, effect_at}
use Rattle.rc_base.specs.declared.scene.Scene.{Scene}
use Rattle.rc_base.specs.declared.state.Effect.{Effect}
use Rattle.rc_base.specs.declared.state.Effect.TheVariants as effect
use Rattle.rc_base.specs.declared.sync.SyncLists.{SyncLists}
use Rattle.rc_base.specs.declared.sync.SyncRow.{SyncRow}
use Rattle.rc_base.specs.declared.sync.WaitAt.{WaitAt}

abbrev pub client_count : SyncLists → ℕ
client_count syncs = length syncs.clients

-- a client that doesn't exist has no operations, and an empty stream
abbrev pub client_row : SyncLists → ℕ → SyncRow
client_row syncs client = unwrap_or (slice_get syncs.clients client) record { ops = []; length = 0 }

-- the client's accepted operations, in the order of their places
abbrev pub ops_of : SyncLists → ℕ → List WaitAt
ops_of syncs client = (client_row syncs client).ops

-- how many commands its stream has
abbrev pub length_of : SyncLists → ℕ → ℕ
length_of syncs client = (client_row syncs client).length

-- how many clients meet at a barrier, if it is declared
abbrev pub count_of : SyncLists → ℕ → Option ℕ
count_of syncs barrier = at_name syncs.counts barrier

-- the units of a semaphore at first
abbrev pub units_of : SyncLists → ℕ → ℕ
units_of syncs semaphore = unwrap_or (at_name syncs.units semaphore) 0

-- the places of operations
abbrev pub places_of : List WaitAt → List ℕ
places_of ops = map (λ (w : WaitAt). w.place) ops

-- There is a client, each declared barrier counts one client or more, and each client's operations rise within its stream.
pub record IsWellFormed (syncs : SyncLists) : Type 0 where
  pub some : 0 < client_count syncs
  pub counts : (barrier count : ℕ) → count_of syncs barrier ≡ Some count → 0 < count
  pub rising : (client : ℕ) → AreRising 0 (places_of (ops_of syncs client)) (length_of syncs client)

-- ---- of a scene

-- an accepted operation of synchronisation stands at its command's place; no other command gives one
abbrev pub wait_of : ℕ → Effect → List WaitAt
wait_of place effect.Quiet = []
wait_of place (effect.Refused fault) = []
wait_of place (effect.Block block) = []
wait_of place (effect.Clear mask) = []
wait_of place (effect.Shared part) = []
wait_of place (effect.Sync op) = record { place = place; op = op } ∷ []

-- the operations among a client's first n commands
unfoldable pub waits_below : Scene → ℕ → ℕ → List WaitAt
waits_below scene client zero = []
waits_below scene client (suc n) = waits_below scene client n ++ wait_of n (effect_at scene client n)

abbrev pub sync_row_of : Scene → ℕ → SyncRow
sync_row_of scene client = record { ops = waits_below scene client (length (stream_of scene client)); length = length (stream_of scene client) }

-- The operations are of whole streams, also beyond a place where a client waits for ever.
unfoldable pub sync_lists_of : Scene → SyncLists
sync_lists_of scene = record {
  clients = map (sync_row_of scene) (range_with_len 0 (length scene.streams));
  counts = scene.decl.barriers;
  units = scene.decl.semaphores;
}

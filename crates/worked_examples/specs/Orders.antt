-- Small scenes and their synchronisation.
use Rattle.std.specs.Prelude.{ℕ, zero, suc, ℤ, List, [], ◌∷◌, ◌==◌, ◌&&◌, ◌||◌, false, pos, negsuc}
use Rattle.rc_base.specs.Colors.{rgba}
use Rattle.rc_base.specs.Orders.Order.{Footprint}
use Rattle.rc_base.specs.declared.command.Command.{Command}
use Rattle.rc_base.specs.declared.command.Command.TheVariants as cmd
use Rattle.rc_base.specs.declared.scene.Scene.{Scene}
use Rattle.rc_base.specs.declared.sync.Entry.{Entry}
use Rattle.rc_base.specs.declared.sync.Entry.TheVariants.{Give, Swap, Take}
use Rattle.rc_base.specs.declared.sync.Name.{Name}
use Rattle.rc_base.specs.declared.sync.SyncLists.{SyncLists}
use Rattle.rc_base.specs.declared.sync.SyncOp.{SyncOp}
use Rattle.rc_base.specs.declared.sync.SyncOp.TheVariants as op
use Rattle.rc_base.specs.declared.sync.SyncRow.{SyncRow}
use Rattle.rc_base.specs.declared.sync.WaitAt.{WaitAt}
use Rattle.order_model.specs.Log.{Job}
use Rattle.order_model.specs.Log.Job.{Work, Wait}
use Rattle.order_model.specs.declared.record.LogEntry.{LogEntry}
use Rattle.order_model.specs.declared.record.LogEntry.TheVariants.{Took, Performed}

abbrev pub name : ℕ → ℕ → Name
name client place = record { client = client; place = place }

abbrev pub wait : ℕ → SyncOp → WaitAt
wait place op = record { place = place; op = op }

abbrev pub row : List WaitAt → ℕ → SyncRow
row ops length = record { ops = ops; length = length }

-- ---- two clients share one unit

abbrev pub flat_vertex : ℤ → ℤ → Command
flat_vertex x y = cmd.Vertex (x ∷ y ∷ pos 0 ∷ pos 65536 ∷ [])

-- Enable 3; BlendFunc 6 7; Color; SemP 1; a triangle over the window; SemV 1; Swap
abbrev pub exclusive : ℕ → ℕ → List Command
exclusive red blue =
    cmd.Enable 3 ∷ cmd.BlendFunc 6 7 ∷ cmd.Color (rgba red 0 blue 128) ∷ cmd.SemP 1 ∷ cmd.Begin 0 ∷ flat_vertex (negsuc 65535) (negsuc 65535)
    ∷ flat_vertex (pos 196608) (negsuc 65535) ∷ flat_vertex (negsuc 65535) (pos 196608) ∷ cmd.End ∷ cmd.SemV 1 ∷ cmd.Swap ∷ []

abbrev pub shared_unit_scene : Scene
shared_unit_scene = record {
  decl = record { version = 1; width = 2; height = 1; shared = []; barriers = []; semaphores = 1 ∷ [] };
  streams = exclusive 255 0 ∷ exclusive 0 255 ∷ [];
}

abbrev pub exclusive_row : SyncRow
exclusive_row = row (wait 3 (op.SemP 1) ∷ wait 9 (op.SemV 1) ∷ wait 10 op.Swap ∷ []) 11

abbrev pub shared_unit : SyncLists
shared_unit = record { clients = exclusive_row ∷ exclusive_row ∷ []; counts = []; units = 1 ∷ [] }

-- client 0 takes the unit and gives it back, then client 1 does, then both swap
abbrev pub shared_unit_journal : List Entry
shared_unit_journal = Take 1 0 ∷ Give 1 0 ∷ Take 1 1 ∷ Give 1 1 ∷ Swap ∷ []

-- what a tile in the window gets of each client, and the log of one that took all of client 0 first
abbrev pub exclusive_jobs : ℕ → List Job
exclusive_jobs zero = Wait 3 ∷ Work 8 ∷ Wait 9 ∷ Wait 10 ∷ []
exclusive_jobs (suc zero) = Wait 3 ∷ Work 8 ∷ Wait 9 ∷ Wait 10 ∷ []
exclusive_jobs (suc (suc client)) = []

abbrev pub shared_unit_log : List LogEntry
shared_unit_log = Performed ∷ Took 0 8 ∷ Performed ∷ Performed ∷ Took 1 8 ∷ Performed ∷ Performed ∷ []

-- the names of both clients, client 0 first where the unit decides
abbrev pub first_client_first : List Name
first_client_first =
    name 0 0 ∷ name 0 1 ∷ name 0 2 ∷ name 1 0 ∷ name 1 1 ∷ name 1 2
    ∷ name 0 3 ∷ name 0 4 ∷ name 0 5 ∷ name 0 6 ∷ name 0 7 ∷ name 0 8 ∷ name 0 9
    ∷ name 1 3 ∷ name 1 4 ∷ name 1 5 ∷ name 1 6 ∷ name 1 7 ∷ name 1 8 ∷ name 1 9
    ∷ name 0 10 ∷ name 1 10 ∷ []

-- as the log has it: nothing of client 1 before its operation is performed
abbrev pub one_after_the_other : List Name
one_after_the_other =
    name 0 0 ∷ name 0 1 ∷ name 0 2 ∷ name 0 3 ∷ name 0 4 ∷ name 0 5 ∷ name 0 6 ∷ name 0 7 ∷ name 0 8 ∷ name 0 9
    ∷ name 1 0 ∷ name 1 1 ∷ name 1 2 ∷ name 1 3 ∷ name 1 4 ∷ name 1 5 ∷ name 1 6 ∷ name 1 7 ∷ name 1 8 ∷ name 1 9
    ∷ name 0 10 ∷ name 1 10 ∷ []

-- ---- a client waits for a unit that nobody gives

abbrev pub no_unit_scene : Scene
no_unit_scene = record {
  decl = record { version = 1; width = 1; height = 1; shared = []; barriers = []; semaphores = 0 ∷ [] };
  streams = (cmd.ClearColor (rgba 255 255 255 255) ∷ cmd.Clear 1 ∷ cmd.Swap ∷ cmd.SemP 1 ∷ cmd.Swap ∷ []) ∷ [];
}

abbrev pub no_unit : SyncLists
no_unit = record { clients = row (wait 2 op.Swap ∷ wait 3 (op.SemP 1) ∷ wait 4 op.Swap ∷ []) 5 ∷ []; counts = []; units = 0 ∷ [] }

-- ---- client 0 has no commands, client 1 swaps

abbrev pub one_swaps : SyncLists
one_swaps = record { clients = row [] 0 ∷ row (wait 0 op.Swap ∷ []) 1 ∷ []; counts = []; units = [] }

-- ---- two clients meet between a command before and one after

abbrev pub meeting_row : SyncRow
meeting_row = row (wait 1 (op.Barrier 1) ∷ []) 3

abbrev pub meeting : SyncLists
meeting = record { clients = meeting_row ∷ meeting_row ∷ []; counts = 2 ∷ []; units = [] }

-- client 0 is through the barrier before client 1 has come to it, but after client 1's command before it
abbrev pub eager : List Name
eager = name 1 0 ∷ name 0 0 ∷ name 0 1 ∷ name 0 2 ∷ name 1 1 ∷ name 1 2 ∷ []

-- a command behind the barrier before the other client's command before it
abbrev pub through_the_barrier : List Name
through_the_barrier = name 0 0 ∷ name 0 1 ∷ name 0 2 ∷ name 1 0 ∷ name 1 1 ∷ name 1 2 ∷ []

-- client 0's places don't rise
abbrev pub falling : List Name
falling = name 0 0 ∷ name 1 0 ∷ name 0 2 ∷ name 0 1 ∷ name 1 1 ∷ name 1 2 ∷ []

-- no command of client 0 behind the barrier
abbrev pub too_short : List Name
too_short = name 0 0 ∷ name 1 0 ∷ name 0 1 ∷ name 1 1 ∷ name 1 2 ∷ []

-- client 0's command before the barrier and client 1's behind it draw to the same pixel, and nothing else is drawn
abbrev pub parted : Footprint ℕ
parted = record { touches = λ n p. (n.client == 0 && n.place == 0) || (n.client == 1 && n.place == 2); samples = λ n t. false; writes = λ n t. false }

-- both clients' commands before the barrier do
abbrev pub side_by_side : Footprint ℕ
side_by_side = record { touches = λ n p. n.place == 0; samples = λ n t. false; writes = λ n t. false }

-- client 0's command first, and client 1's
abbrev pub zero_first : List Name
zero_first = name 0 0 ∷ name 1 0 ∷ name 0 1 ∷ name 1 1 ∷ name 0 2 ∷ name 1 2 ∷ []

abbrev pub one_first : List Name
one_first = name 1 0 ∷ name 0 0 ∷ name 0 1 ∷ name 1 1 ∷ name 0 2 ∷ name 1 2 ∷ []

-- ---- one gives, the other takes

abbrev pub handing_over : SyncLists
handing_over = record {
  clients = row (wait 1 (op.SemV 1) ∷ []) 2 ∷ row (wait 0 (op.SemP 1) ∷ []) 2 ∷ [];
  counts = [];
  units = 0 ∷ [];
}

-- the taker before the giver
abbrev pub taken_too_soon : List Name
taken_too_soon = name 0 0 ∷ name 1 0 ∷ name 0 1 ∷ name 1 1 ∷ []

abbrev pub handed_over : List Name
handed_over = name 0 0 ∷ name 0 1 ∷ name 1 0 ∷ name 1 1 ∷ []

-- ---- a client without synchronisation

abbrev pub plain : SyncLists
plain = record { clients = row [] 4 ∷ []; counts = []; units = [] }

-- Orders as runs: names of one client in a row.
use Rattle.std.specs.Prelude.{ℕ, ◌+◌, ◌-◌, List, slice_index_or}
use Rattle.std.specs.List.{flat_map}
use Rattle.rc_base.specs.Orders.Order.{names_from}
use Rattle.rc_base.specs.declared.sync.Name.{Name}
use Rattle.serial_render.specs.declared.runs.Run.{Run}

-- the names of a run
abbrev pub names_of_run : Run → List Name
names_of_run r = names_from r.client r.first (r.last + 1 - r.first)

-- the names of one run after the other
abbrev pub names_of_runs : List Run → List Name
names_of_runs runs = flat_map names_of_run runs

-- the run at an index
abbrev pub run_at : List Run → ℕ → Run
run_at runs i = slice_index_or runs i (record { client = 0; first = 0; last = 0 })

-- The lines of reports.
use Rattle.std.specs.Prelude.{◌≡◌, Result, IfOk, ℕ, Bool, List, [], ◌∷◌, ◌++◌, length, Option, Some, None, slice_index_or, codes, if◌then◌else◌}
use Rattle.std.specs.List.{flat_map, range_with_len}
use Rattle.std.specs.Option.{option_map_or}
use Rattle.std.specs.Fmt.{decimal}
use Rattle.rc_base.specs.declared.cluster.Tally.{Tally}
use Rattle.rc_base.specs.declared.state.Fault.{Fault}
use Rattle.rc_base.specs.declared.sync.Entry.{Entry}
use Rattle.rc_base.specs.declared.sync.WaitAt.{WaitAt}
use Rattle.rc_base.specs.declared.sync.Waiting.{Waiting}
use Rattle.client_issue.specs.Cores.{no_tally}
use Rattle.order_model.specs.Report.{count_lines, fault_line, refused_line, joined_line, order_line, stuck_line, tile_order}
use Rattle.order_model.specs.declared.record.Record.{Record}
use Rattle.run_words.specs.declared.work.Work.{Work}

-- the answer is these bytes, or there was no memory
abbrev pub Yields : {E : Type 0} → List ℕ → Result (List ℕ) E → Type 0
Yields lines result = IfOk result (λ given. given ≡ lines)

-- the lines of refused commands, client by client, with a word for what refused them
abbrev pub lines_of_refused : List ℕ → List (List (ℕ × Fault)) → List ℕ
lines_of_refused word faults = flat_map (λ client. flat_map (refused_line word client) (slice_index_or faults client [])) (range_with_len 0 (length faults))

-- those that are refused where they are issued
abbrev pub lines_of_faults : List (List (ℕ × Fault)) → List ℕ
lines_of_faults faults = flat_map (λ client. flat_map (fault_line client) (slice_index_or faults client [])) (range_with_len 0 (length faults))

-- the line of a client, if it waits
abbrev pub line_of_waiting : ℕ → Option WaitAt → List ℕ
line_of_waiting client wait = option_map_or (stuck_line client) wait []

-- the lines of the first n clients that wait
abbrev pub lines_of_waiting : List (Option WaitAt) → ℕ → List ℕ
lines_of_waiting at n = flat_map (λ client. line_of_waiting client (slice_index_or at client None)) (range_with_len 0 n)

-- who is left waiting, and the refusal behind it
abbrev pub lines_of_stuck : Option Waiting → ℕ → List ℕ
lines_of_stuck None n = []
lines_of_stuck (Some w) n = lines_of_waiting w.at n ++ codes "rc: stuck\n"

-- the line of a tile: how many parcels were sent to it, how many sets, and how many looks they cost
abbrev pub line_of_tile : ℕ → Tally → List ℕ
line_of_tile tile tally = joined_line
    (codes "tile " ∷ decimal tile ∷ codes " parcels " ∷ decimal tally.parcels ∷ codes " sets " ∷ decimal tally.sets ∷ codes " looks " ∷ decimal tally.looks ∷ [])

-- the lines of what was sent, tile by tile
abbrev pub lines_of_tiles : List Tally → List ℕ
lines_of_tiles tallies = flat_map (λ tile. line_of_tile tile (slice_index_or tallies tile no_tally)) (range_with_len 0 (length tallies))

-- the lines of the order that a tile's log records
abbrev pub lines_of_order : Record → ℕ → List ℕ
lines_of_order kept tile = flat_map (order_line tile) (tile_order kept tile)

-- the lines of the recorded orders, tile by tile
abbrev pub lines_of_orders : Record → List ℕ
lines_of_orders kept = flat_map (λ tile. lines_of_order kept tile) (range_with_len 0 (length kept.logs))

-- all lines of a run with tiles, where these were refused before it, and the filters counted so
abbrev pub lines_of_run_with : List ℕ → List ℕ → List (List (ℕ × Fault)) → List Tally → Record → Option Waiting → Bool → List ℕ
lines_of_run_with refused counted faults tallies kept waiting orders =
    refused ++ lines_of_faults faults ++ lines_of_tiles tallies ++ count_lines kept.journal ++ counted
    ++ (if orders then lines_of_orders kept else []) ++ lines_of_stuck waiting (length faults)

-- so it is of what a task works on
abbrev pub lines_of_run : Work → List (List (ℕ × Fault)) → List Tally → Record → Option Waiting → Bool → List ℕ
lines_of_run work faults tallies kept waiting orders = lines_of_run_with work.refused work.counted faults tallies kept waiting orders

-- the same of a run without tiles
abbrev pub lines_of_turns_with : List ℕ → List ℕ → List (List (ℕ × Fault)) → List Entry → List ℕ → Option Waiting → List ℕ
lines_of_turns_with refused counted faults journal told waiting =
    refused ++ lines_of_faults faults ++ count_lines journal ++ counted ++ told ++ lines_of_stuck waiting (length faults)

-- so it is of what a task works on
abbrev pub lines_of_turns : Work → List (List (ℕ × Fault)) → List Entry → List ℕ → Option Waiting → List ℕ
lines_of_turns work faults journal told waiting = lines_of_turns_with work.refused work.counted faults journal told waiting

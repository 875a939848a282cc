-- The texts that a run writes: the images of its frames, and its report.
use Rattle.std.specs.Prelude.{ℕ, Bool, true, false, List, [], ◌∷◌, ◌++◌, length, map, sum, count_by, codes, is_some, slice_index_or, if◌then◌else◌}
use Rattle.std.specs.List.{flat_map, range_with_len, list_any}
use Rattle.std.specs.Option.{option_map_or}
use Rattle.std.specs.Fmt.{decimal}
use Rattle.rc_base.specs.Numbers.{natural}
use Rattle.rc_base.specs.Formats.Netpbm.{p6_texts}
use Rattle.rc_base.specs.Contexts.Issue.{faults_of}
use Rattle.rc_base.specs.Drawing.Serial.{frame_pixel}
use Rattle.rc_base.specs.Drawing.Images.{Pixels, image_from}
use Rattle.rc_base.specs.Orders.Sync.{client_count, sync_lists_of}
use Rattle.rc_base.specs.Orders.Journal.{waiting_of}
use Rattle.rc_base.specs.Cluster.Tiles.{tile_at, tile_count}
use Rattle.rc_base.specs.Cluster.Parcels.{parcels_of, set_count}
use Rattle.rc_base.specs.Cluster.Looks.{look_count}
use Rattle.rc_base.specs.declared.image.Image.{Image}
use Rattle.rc_base.specs.declared.scene.Scene.{Scene}
use Rattle.rc_base.specs.declared.state.Fault.{Fault}
use Rattle.rc_base.specs.declared.state.Fault.TheVariants.{InvalidEnum, InvalidValue, InvalidOperation, StackOverflow, StackUnderflow}
use Rattle.rc_base.specs.declared.state.Parcel.{Parcel}
use Rattle.rc_base.specs.declared.sync.Entry.{Entry}
use Rattle.rc_base.specs.declared.sync.Entry.TheVariants as entry
use Rattle.rc_base.specs.declared.sync.Name.{Name}
use Rattle.rc_base.specs.declared.sync.SyncLists.{SyncLists}
use Rattle.rc_base.specs.declared.sync.SyncOp.{SyncOp}
use Rattle.rc_base.specs.declared.sync.SyncOp.TheVariants as op
use Rattle.rc_base.specs.declared.sync.WaitAt.{WaitAt}
use Rattle.rc_base.specs.declared.window.Layout.{Layout}
use Rattle.order_model.specs.Log.{recorded_order}
use Rattle.order_model.specs.declared.record.Record.{Record}

-- ---- images

-- the order that a tile's log records
abbrev pub tile_order : Record → ℕ → List Name
tile_order kept tile = recorded_order kept.syncs kept.journal (slice_index_or kept.logs tile [])

-- frame k of a run: each tile's pixels are those of one serial renderer in that tile's recorded order
abbrev pub recorded_pixel : Scene → Layout → Record → ℕ → Pixels
recorded_pixel scene l kept k x y = frame_pixel scene (tile_order kept (tile_at l (natural x) (natural y))) k x y

abbrev pub is_swap_entry : Entry → Bool
is_swap_entry entry.Swap = true
is_swap_entry (entry.Meet _ _) = false
is_swap_entry (entry.Give _ _) = false
is_swap_entry (entry.Take _ _) = false

-- one frame for each Swap of a journal
abbrev pub frame_count : List Entry → ℕ
frame_count journal = count_by is_swap_entry journal

abbrev pub recorded_frame : Scene → Layout → Record → ℕ → Image
recorded_frame scene l kept k = image_from scene.decl (recorded_pixel scene l kept k)

-- the P6 texts of the frames, one after the other
unfoldable pub image_text_of : Scene → Layout → Record → List ℕ
image_text_of scene l kept = p6_texts (map (recorded_frame scene l kept) (range_with_len 1 (frame_count kept.journal)))

-- ---- lines of the report

abbrev pub fault_name : Fault → List ℕ
fault_name InvalidEnum = codes "INVALID_ENUM"
fault_name InvalidValue = codes "INVALID_VALUE"
fault_name InvalidOperation = codes "INVALID_OPERATION"
fault_name StackOverflow = codes "STACK_OVERFLOW"
fault_name StackUnderflow = codes "STACK_UNDERFLOW"

abbrev pub joined_line : List (List ℕ) → List ℕ
joined_line parts = flat_map (λ (part : List ℕ). part) parts ++ codes "\n"

-- a refused command, with a word for what refused it
abbrev pub refused_line : List ℕ → ℕ → ℕ × Fault → List ℕ
refused_line word client fault =
    joined_line (codes "client " ∷ decimal client ∷ word ∷ fault_name fault.1 ∷ codes " at " ∷ decimal fault.0 ∷ [])

-- it is refused where it is issued
abbrev pub fault_line : ℕ → ℕ × Fault → List ℕ
fault_line client fault = refused_line (codes " fault ") client fault

-- or before that, among the call lists of its stream
abbrev pub list_fault_line : ℕ → ℕ × Fault → List ℕ
list_fault_line client fault = refused_line (codes " list fault ") client fault

-- the faults of a client's whole stream, places rising
abbrev pub client_faults : Scene → ℕ → List ℕ
client_faults scene client = flat_map (fault_line client) (faults_of scene client)

abbrev pub client_numbers : Scene → List ℕ
client_numbers scene = range_with_len 0 (length scene.streams)

-- a count of what each client sends to a tile, summed over the clients
abbrev pub summed : Scene → Layout → ℕ → (ℕ → List Parcel → ℕ) → ℕ
summed scene l tile count = sum (map (λ client. count client (parcels_of scene l client tile)) (client_numbers scene))

-- the parcels, the sets and the looks of a tile
abbrev pub tile_line : Scene → Layout → ℕ → List ℕ
tile_line scene l tile = joined_line
    (codes "tile " ∷ decimal tile
    ∷ codes " parcels " ∷ decimal (summed scene l tile (λ client parcels. length parcels))
    ∷ codes " sets " ∷ decimal (summed scene l tile (λ client parcels. set_count parcels))
    ∷ codes " looks " ∷ decimal (summed scene l tile (λ client parcels. look_count scene l client tile parcels)) ∷ [])

abbrev pub order_line : ℕ → Name → List ℕ
order_line tile n = joined_line (codes "order " ∷ decimal tile ∷ codes " " ∷ decimal n.client ∷ codes " " ∷ decimal n.place ∷ [])

abbrev pub op_text : SyncOp → List ℕ
op_text op.Swap = codes "Swap"
op_text (op.Barrier n) = codes "Barrier " ++ decimal n
op_text (op.SemP n) = codes "SemP " ++ decimal n
op_text (op.SemV n) = codes "SemV " ++ decimal n

-- a client that is left waiting
abbrev pub stuck_line : ℕ → WaitAt → List ℕ
stuck_line client w = joined_line (codes "stuck client " ∷ decimal client ∷ codes " at " ∷ decimal w.place ∷ codes " " ∷ op_text w.op ∷ [])

-- ---- the report

abbrev pub fault_lines : Scene → List ℕ
fault_lines scene = flat_map (client_faults scene) (client_numbers scene)

abbrev pub tile_lines : Scene → Layout → List ℕ
tile_lines scene l = flat_map (tile_line scene l) (range_with_len 0 (tile_count l))

-- how many entries the journal has, and how many frames
abbrev pub count_lines : List Entry → List ℕ
count_lines journal =
    joined_line (codes "journal " ∷ decimal (length journal) ∷ []) ++ joined_line (codes "frames " ∷ decimal (frame_count journal) ∷ [])

abbrev pub order_lines : Layout → Record → List ℕ
order_lines l kept = flat_map (λ tile. flat_map (order_line tile) (tile_order kept tile)) (range_with_len 0 (tile_count l))

-- a client of these lists is left waiting by the journal
abbrev pub is_stuck : SyncLists → List Entry → Bool
is_stuck syncs journal = list_any (λ client. is_some (waiting_of syncs journal client)) (range_with_len 0 (client_count syncs))

-- who is left waiting, clients rising, and the refusal
abbrev pub client_stuck : SyncLists → List Entry → ℕ → List ℕ
client_stuck syncs journal client = option_map_or (stuck_line client) (waiting_of syncs journal client) []

abbrev pub stuck_lines : SyncLists → List Entry → List ℕ
stuck_lines syncs journal =
    flat_map (client_stuck syncs journal) (range_with_len 0 (client_count syncs))
    ++ (if is_stuck syncs journal then joined_line (codes "rc: stuck" ∷ []) else [])

-- The report of a run: faults, tiles, the journal's and the frames' numbers, what else is told of it, the recorded orders where they are asked for,
-- and who is left waiting.
unfoldable pub report_text_of : Scene → Layout → Record → List ℕ → Bool → List ℕ
report_text_of scene l kept told orders =
    fault_lines scene ++ tile_lines scene l ++ count_lines kept.journal ++ told ++ (if orders then order_lines l kept else [])
    ++ stuck_lines kept.syncs kept.journal

-- The report of a run without tiles, by a journal: no tile and no order is told.
unfoldable pub short_report_of : Scene → List Entry → List ℕ → List ℕ
short_report_of scene journal told = fault_lines scene ++ count_lines journal ++ told ++ stuck_lines (sync_lists_of scene) journal

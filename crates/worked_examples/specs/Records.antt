-- The records of the examples, and the texts of their runs.
use Rattle.std.specs.Prelude.{ℕ, List, [], ◌∷◌, ◌++◌, codes, false}
use Rattle.rc_base.specs.Orders.Sync.{sync_lists_of}
use Rattle.rc_base.specs.declared.scene.Scene.{Scene}
use Rattle.rc_base.specs.declared.sync.Entry.TheVariants as entry
use Rattle.order_model.specs.Report.{image_text_of, report_text_of}
use Rattle.order_model.specs.declared.record.Record.{Record}
use Rattle.order_model.specs.declared.record.LogEntry.TheVariants.{Took, Performed}
use Rattle.worked_examples.specs.Scenes.{red_clear, lone_swap, tiled}

-- the clear and then the swap, on one tile
abbrev pub red_clear_record : Record
red_clear_record = record { journal = entry.Swap ∷ []; logs = (Took 0 1 ∷ Performed ∷ []) ∷ []; syncs = sync_lists_of red_clear }

-- nothing is granted
abbrev pub lone_swap_record : Record
lone_swap_record = record { journal = []; logs = [] ∷ []; syncs = sync_lists_of lone_swap }

-- the images and the report of a run on one tile
abbrev pub images_of : Scene → Record → List ℕ
images_of scene kept = image_text_of scene (tiled scene 1 1) kept

abbrev pub report_of : Scene → Record → List ℕ
report_of scene kept = report_text_of scene (tiled scene 1 1) kept [] false

abbrev pub red_clear_report : List ℕ
red_clear_report = codes "tile 0 parcels 3 sets 1 looks 15\n" ++ codes "journal 1\n" ++ codes "frames 1\n"

abbrev pub lone_swap_report : List ℕ
lone_swap_report =
    codes "tile 0 parcels 3 sets 0 looks 0\n" ++ codes "journal 0\n" ++ codes "frames 0\n"
    ++ codes "stuck client 1 at 0 Swap\n" ++ codes "rc: stuck\n"

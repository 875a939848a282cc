-- Laws of the first frames of a longer show: the first n frames are those of the show that is cut behind them.
use Rattle.std.specs.Prelude.{◌≡◌, ℕ, ◌<◌, ◌≤◌, min, false, List, filter, take}
use Rattle.rc_base.specs.Drawing.Images.{frame_images}
use Rattle.rc_base.specs.Orders.Journal.{IsLegal}
use Rattle.rc_base.specs.Orders.Order.{default_journal, default_order}
use Rattle.rc_base.specs.Orders.Sync.{IsWellFormed, sync_lists_of}
use Rattle.rc_base.specs.Cluster.Tiles.{tile_count}
use Rattle.rc_base.specs.declared.image.Image.{Image}
use Rattle.rc_base.specs.declared.scene.Scene.{Scene}
use Rattle.rc_base.specs.declared.sync.Entry.{Entry}
use Rattle.rc_base.specs.declared.window.Layout.{Layout}
use Rattle.order_model.specs.Report.{frame_count, is_stuck, recorded_frame, tile_order}
use Rattle.order_model.specs.Sent.{IsRecordOf}
use Rattle.order_model.specs.declared.record.Record.{Record}
use Rattle.show_fronts.specs.Fronts.{is_in_front, front, front_journal, front_record}

-- the frames of one renderer in the default order, one for each Swap of the default journal
abbrev pub serial_frames : Scene → List Image
serial_frames scene =
    let journal = default_journal (sync_lists_of scene) in frame_images scene (default_order (sync_lists_of scene) journal) (frame_count journal)

-- the default journal of the first n frames is that of the whole, cut there
abbrev pub DefaultJournalsStay : Type 0
DefaultJournalsStay =
    (scene : Scene) (n : ℕ) → IsWellFormed (sync_lists_of scene)
    → default_journal (sync_lists_of (front n scene)) ≡ front_journal n (default_journal (sync_lists_of scene))

-- one renderer shows of the first n frames what it shows first of the whole
abbrev pub SerialFramesStay : Type 0
SerialFramesStay = (scene : Scene) (n : ℕ) → IsWellFormed (sync_lists_of scene) → serial_frames (front n scene) ≡ take n (serial_frames scene)

-- a record of the whole, cut there, is one of the first n frames
abbrev pub FirstFramesHaveRecords : Type 0
FirstFramesHaveRecords =
    (scene : Scene) (l : Layout) (kept : Record) (n : ℕ) → IsWellFormed (sync_lists_of scene) → IsRecordOf scene l kept
    → IsRecordOf (front n scene) l (front_record scene n kept)

-- it has as many frames
abbrev pub FrontsHaveTheirFrames : Type 0
FrontsHaveTheirFrames = (journal : List Entry) (n : ℕ) → frame_count (front_journal n journal) ≡ min n (frame_count journal)

-- each tile's order in it is that in the whole without the names behind the cut
abbrev pub FirstOrdersStay : Type 0
FirstOrdersStay =
    (scene : Scene) (l : Layout) (kept : Record) (n : ℕ) → IsWellFormed (sync_lists_of scene) → IsRecordOf scene l kept
    → (tile : ℕ) → tile < tile_count l → tile_order (front_record scene n kept) tile ≡ filter (is_in_front scene n) (tile_order kept tile)

-- and its frames are those of the whole
abbrev pub FirstFramesStay : Type 0
FirstFramesStay =
    (scene : Scene) (l : Layout) (kept : Record) (n : ℕ) → IsWellFormed (sync_lists_of scene) → 0 < tile_count l → IsRecordOf scene l kept
    → (k : ℕ) → k ≤ n → recorded_frame (front n scene) l (front_record scene n kept) k ≡ recorded_frame scene l kept k

-- the other way: what is granted of the first n frames is granted lawfully of the whole, so streams may go on to be written while they are shown
abbrev pub FrontJournalsAreLegal : Type 0
FrontJournalsAreLegal =
    (scene : Scene) (journal : List Entry) (n : ℕ) → IsWellFormed (sync_lists_of scene) → IsLegal (sync_lists_of (front n scene)) journal
    → IsLegal (sync_lists_of scene) journal

-- where the first n frames come, nobody is left waiting: also of a show that gets stuck later
abbrev pub FrontsEnd : Type 0
FrontsEnd =
    (scene : Scene) (journal : List Entry) (n : ℕ) → IsLegal (sync_lists_of (front n scene)) journal → frame_count journal ≡ n
    → is_stuck (sync_lists_of (front n scene)) journal ≡ false

-- so the first n frames of a show that has n can be shown alone, whatever comes of it later: a record of it, cut there, has them, and leaves nobody waiting
abbrev pub FirstFramesEnd : Type 0
FirstFramesEnd =
    (scene : Scene) (l : Layout) (kept : Record) (n : ℕ) → IsWellFormed (sync_lists_of scene) → IsRecordOf scene l kept → n ≤ frame_count kept.journal
    → (frame_count (front_record scene n kept).journal ≡ n) × (is_stuck (sync_lists_of (front n scene)) (front_record scene n kept).journal ≡ false)

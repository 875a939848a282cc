-- A run of a scene within the limits.
use Rattle.std.proofs.Common.{◌≡◌, ◌<◌, ◌≤◌, ◌+◌, ◌^◌, ℕ, suc, List, [], ◌∷◌, length, sym, subst, arith}
use Rattle.std.specs.List.{AllByRecursion}
use Rattle.std.specs.Prelude.{Option, slice_index_or}
use Rattle.command_store.specs.Scenes.{IsShort}
use Rattle.rc_base.specs.Cluster.Tiles.{tile_count}
use Rattle.rc_base.specs.Formats.Within.{IsWithin}
use Rattle.rc_base.specs.Outside.Ends.{Used}
use Rattle.rc_base.specs.declared.cluster.Tally.{Tally}
use Rattle.rc_base.specs.declared.command.Command.{Command}
use Rattle.rc_base.specs.declared.cluster.TilePart.{TilePart}
use Rattle.rc_base.specs.declared.scene.Scene.{Scene}
use Rattle.rc_base.specs.declared.state.Fault.{Fault}
use Rattle.rc_base.specs.declared.sync.Waiting.{Waiting}
use Rattle.rc_base.specs.declared.window.Layout.{Layout}
use Rattle.order_model.specs.Report.{image_text_of, recorded_pixel}
use Rattle.order_model.specs.Scenes.{IsDrawableScene}
use Rattle.order_model.specs.declared.record.Record.{Record}
use Rattle.run_record.specs.Collected.{IsSmall, IsWholeRun}
use Rattle.run_record.specs.ImageText.{WholeRunsAreWritten}
use Rattle.frame_out.specs.Laws.{FramesOfScenesAreWritable, HasWindow}
use Rattle.frame_out.specs.Windows.{IsWindow}
use Rattle.frame_out.specs.Writing.{IsCounted}
use Rattle.frame_out.specs.declared.writing.Written.{Written}
use Rattle.cluster_run.specs.Serving.{HasFinished}

pub is_small : (scene : Scene) → IsDrawableScene scene → IsSmall scene
is_small scene h = record { some = h.some; few = h.few; short = h.short }

-- each stream is short enough to be stored
pub are_short : (streams : List (List Command)) → ((client : ℕ) → length (slice_index_or streams client []) < 2 ^ 20 + 1) → AllByRecursion IsShort streams
are_short [] h = tt
are_short (stream ∷ streams) h = (let first = h 0 in omega (arith, first), are_short streams (λ client. h (suc client)))

-- the sides of the window
pub is_window : (scene : Scene) (l : Layout) → l.width ≡ scene.decl.width → l.height ≡ scene.decl.height → IsDrawableScene scene → IsWindow l
is_window scene l w h can = record {
  width = subst (λ (n : ℕ). (1 ≤ n) × (n ≤ 2048)) (sym w) can.width;
  height = subst (λ (n : ℕ). (1 ≤ n) × (n ≤ 2048)) (sym h) can.height;
}

-- what a writer that has finished has written is the record's image text
pub text_written : WholeRunsAreWritten → FramesOfScenesAreWritable → (scene : Scene) (l : Layout) (kept : Record) (tallies : List Tally) (waiting : Option Waiting)
    (faults : List (List (ℕ × Fault))) (shown : ℕ → List TilePart) (image : Used) (written : Written) → IsWithin scene → HasWindow scene l → 0 < tile_count l
    → IsWholeRun scene l kept tallies waiting faults shown → HasFinished l shown image written → IsCounted image (image_text_of scene l kept) written
text_written law few scene l kept tallies waiting faults shown image written within window some whole h =
    subst (IsCounted image (image_text_of scene l kept)) (sym h.is)
    (law scene l kept shown h.took image h.writer whole.frames window some
    (few scene l kept.journal (recorded_pixel scene l kept) within.limits window whole.run.lawful.maximal.0)
    h.has h.fronts h.tile h.low h.missing h.all)

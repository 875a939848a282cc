use Rattle.std.proofs.Common.{◌≡◌, false, ℕ, List, inl, inr, Result, Ok, Err}
use Rattle.std.specs.Prelude.{IfOk}
use Rattle.rc_base.specs.Outside.Ends.{Used, Took}
use Rattle.rc_base.specs.declared.out_of_memory.OutOfMemory.{OutOfMemory}
use Rattle.rc_base.specs.declared.scene.Scene.{Scene}
use Rattle.rc_base.specs.declared.window.Layout.{Layout}
use Rattle.order_model.specs.Report.{image_text_of}
use Rattle.frame_out.specs.Writing.{IsTextWritten}
use Rattle.frame_out.specs.declared.writing.Written.{Written}
use Rattle.cluster_run.specs.declared.run.Run.{Run}
use Rattle.uses.proofs.runs.shown.Goals as goal

all_of : (image : Used) (text : List ℕ) (w : Written) → IsTextWritten image text w → w.fault ≡ false → Took image text
all_of image text w (inl whole) calm = whole.1
all_of image text w (inr part) calm = absurd (let failed = part.0 in cc)

gives : (r : Result Run OutOfMemory) (image : Used) (scene : Scene) (l : Layout) → IfOk r (λ (run : Run). IsTextWritten image (image_text_of scene l run.kept) run.written)
    → IfOk r (λ (run : Run). run.written.fault ≡ false → Took image (image_text_of scene l run.kept))
gives (Ok run) image scene l is = all_of image (image_text_of scene l run.kept) run.written is
gives (Err e) image scene l is = tt

pub returns : goal.returns
returns g c = gives c.run_threads.result _ _ _ c.run_threads.ensures.written

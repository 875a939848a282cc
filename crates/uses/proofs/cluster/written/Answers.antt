use Rattle.std.proofs.Common.{◌≡◌, false, ℕ, List, inl, inr, Result, Ok, Err}
use Rattle.std.specs.Prelude.{IfOk}
use Rattle.rc_base.specs.Outside.Ends.{Used, Took}
use Rattle.rc_base.specs.declared.out_of_memory.OutOfMemory.{OutOfMemory}
use Rattle.frame_out.specs.Writing.{IsTextWritten}
use Rattle.frame_out.specs.declared.writing.Written.{Written}
use Rattle.uses.proofs.cluster.written.Goals as goal

all_of : (image : Used) (text : List ℕ) (w : Written) → IsTextWritten image text w → w.fault ≡ false → Took image text
all_of image text w (inl whole) calm = whole.1
all_of image text w (inr part) calm = absurd (let failed = part.0 in cc)

gives : (r : Result Written OutOfMemory) (image : Used) (text : List ℕ) → IfOk r (IsTextWritten image text) → IfOk r (λ w. w.fault ≡ false → Took image text)
gives (Ok w) image text is = all_of image text w is
gives (Err e) image text is = tt

pub returns : goal.returns
returns g c = gives c.write_frames.result _ _ c.write_frames.ensures.written

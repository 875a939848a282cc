use Rattle.std.proofs.Common.{ℕ, ◌<◌, List, length, sym, subst}
use Rattle.std.specs.Prelude.{IfOk, Vec}
use Rattle.std.specs.Global.{Global}
use Rattle.rc_base.specs.declared.cluster.TilePart.{TilePart}
use Rattle.run_record.specs.Gathering.{AreEven, AreInFrames}
use Rattle.run_record.proofs.frames.parts_in_frames.Goals as goal

use Rattle.std.proofs.Common.{◌≡◌, ℕ, ◌*◌, List, length, Result, Ok, Err}
use Rattle.std.specs.Prelude.{IfOk}
use Rattle.rc_base.specs.Cluster.Tiles.{tile_count}
use Rattle.rc_base.specs.declared.out_of_memory.OutOfMemory.{OutOfMemory}
use Rattle.rc_base.specs.declared.scene.Scene.{Scene}
use Rattle.rc_base.specs.declared.window.Layout.{Layout}
use Rattle.order_model.specs.Report.{frame_count}
use Rattle.step_core.specs.CoreRuns.{IsFinish}
use Rattle.step_core.specs.declared.rounds.CoreRun.{CoreRun}
use Rattle.uses.proofs.runs.finished.Goals as goal

whole : (r : Result CoreRun OutOfMemory) (scene : Scene) (l : Layout) (depth : ℕ) (picks : List ℕ) → IfOk r (IsFinish scene l depth picks)
    → IfOk r (λ (run : CoreRun). length run.parts ≡ frame_count run.kept.journal * tile_count l)
whole (Ok run) scene l depth picks done = done.run_of.parts.count
whole (Err e) scene l depth picks done = tt

pub returns : goal.returns
returns c = whole c.finish.result _ _ _ _ c.finish.ensures.done

use Rattle.std.proofs.Common.{ℕ, Result, Ok, Err, ap, ◌∙◌}
use Rattle.std.specs.Prelude.{IfOk}
use Rattle.rc_base.specs.declared.out_of_memory.OutOfMemory.{OutOfMemory}
use Rattle.rc_base.specs.declared.scene.Scene.{Scene}
use Rattle.rc_base.specs.declared.window.Layout.{Layout}
use Rattle.tile_queues.specs.Ends.{lane_depth}
use Rattle.cluster_run.specs.Workers.{IsRunOfWorkers}
use Rattle.cluster_run.specs.declared.run.Run.{Run}
use Rattle.uses.specs.Cluster.{RanSoDeep}
use Rattle.uses.proofs.cluster.ran_so_deep.Goals as goal

gives : (R : Type 0) (r : Result Run OutOfMemory) (scene : Scene) (l : Layout) (depth : ℕ)
    → IfOk r (λ (run : Run). IsRunOfWorkers R scene l depth run.kept run.tallies run.waiting run.faults)
    → IfOk r (λ (run : Run). RanSoDeep R scene l depth run.kept run.tallies run.waiting run.faults)
gives R (Ok run) scene l depth is =
    record { run = is; deep = λ client tile w d first second. ap lane_depth ((is.ends.client client w first).tiles_are.named tile d second) ∙ is.deep.parcels client tile first second }
gives R (Err e) scene l depth is = tt

pub returns : goal.returns
returns g c = gives _ c.run_threads.result _ _ _ c.run_threads.ensures.workers

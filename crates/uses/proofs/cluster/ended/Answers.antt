use Rattle.std.proofs.Common.{◌<◌, ℕ, List, length, Result, Ok, Err, arith}
use Rattle.std.specs.Prelude.{IfOk, slice_index_or}
use Rattle.rc_base.specs.declared.out_of_memory.OutOfMemory.{OutOfMemory}
use Rattle.worker_crew.specs.Crews.{HaveEnded}
use Rattle.worker_crew.specs.Tasks.{HaveAllEnded}
use Rattle.worker_crew.specs.declared.crew.Crew.{Crew}
use Rattle.worker_crew.specs.declared.task.Task.{Task}
use Rattle.uses.specs.Cluster.{AreOver}
use Rattle.uses.proofs.cluster.ended.Goals as goal

all_over : {W : Type 0} (leads : W → W → Type 0) (over : W → Type 0) (workers : List W) (tasks : List (Task W)) → HaveAllEnded leads over workers tasks
    → (i : ℕ) (d : Task W) → i < length tasks → over (slice_index_or tasks i d).worker
all_over leads over workers tasks all i d low = (all.at i d.worker d (omega (arith, low, all.count))).over_is

gives : {A B C : Type 0} (a_leads : A → A → Type 0) (a_over : A → Type 0) (b_leads : B → B → Type 0) (b_over : B → Type 0) (c_leads : C → C → Type 0) (c_over : C → Type 0)
    (r : Result (Crew (Task A) (Task B) (Task C)) OutOfMemory) (crew : Crew A B C)
    → IfOk r (λ tasks. HaveEnded a_leads a_over b_leads b_over c_leads c_over crew tasks) → IfOk r (AreOver a_over b_over c_over)
gives a_leads a_over b_leads b_over c_leads c_over (Ok tasks) crew ended = record {
  clients = all_over a_leads a_over crew.clients.items tasks.clients.items ended.clients;
  manager = ended.manager.over_is;
  tiles = all_over c_leads c_over crew.tiles.items tasks.tiles.items ended.tiles;
}
gives a_leads a_over b_leads b_over c_leads c_over (Err e) crew ended = tt

pub returns : goal.returns
returns g c = gives _ _ _ _ _ _ c.run_to_end.result _ c.run_to_end.ensures

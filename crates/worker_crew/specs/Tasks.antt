-- Tasks, and lists of them.
use Rattle.std.specs.Prelude.{◌≡◌, true, List, Result, MatchResult}
use Rattle.std.specs.declared.thread.PromisedHandle.{PromisedHandle}
use Rattle.rc_base.specs.Cluster.Lanes.{EachLane}
use Rattle.rc_base.specs.Lists.{ArePaired}
use Rattle.worker_crew.specs.declared.task.Task.{Task}
use Rattle.worker_crew.specs.declared.task.Kept.{Kept}

module _ {W : Type 0} (leads : W → W → Type 0) (over : W → Type 0) where
  -- a task of a worker that began as w
  pub record IsTask (w : W) (task : Task W) : Type 0 where
    pub led : leads w task.worker
    pub ends : task.ended ≡ true → over task.worker

  -- such a task in a thread, or one that came back
  abbrev pub IsStarted : W → Result (PromisedHandle (Task W) (Kept W)) (Task W) → Type 0
  IsStarted w s = MatchResult s (λ h. IsTask w h.promise.0.value) (λ t. IsTask w t)

  -- a task, at its end, of a worker that began as w
  pub record HasEnded (w : W) (task : Task W) : Type 0 where
    pub led : leads w task.worker
    pub over_is : over task.worker

  -- each of these was started, or came back, as a task of the worker of its number
  abbrev pub AreStarted : List W → List (Result (PromisedHandle (Task W) (Kept W)) (Task W)) → Type 0
  AreStarted workers started = ArePaired (λ i w s. IsStarted w s) workers started

  -- each of these is the task, at its end, of the worker of its number
  abbrev pub HaveAllEnded : List W → List (Task W) → Type 0
  HaveAllEnded workers tasks = ArePaired (λ i w t. HasEnded w t) workers tasks

  -- whatever workers these are tasks of, those are
  abbrev pub GoOn : List (Task W) → List (Task W) → Type 0
  GoOn before after = EachLane (λ i s t. (w : W) → IsTask w s → IsTask w t) before after

  -- whatever workers these were started as tasks of, those are
  abbrev pub StartedGoOn : List (Result (PromisedHandle (Task W) (Kept W)) (Task W)) → List (Result (PromisedHandle (Task W) (Kept W)) (Task W)) → Type 0
  StartedGoOn before after = EachLane (λ i s t. (w : W) → IsStarted w s → IsStarted w t) before after

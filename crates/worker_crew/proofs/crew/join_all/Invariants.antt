use Rattle.std.proofs.Common.{◌≡◌, ◌≤◌, ℕ, vec_len, vec_capacity, get_or, ◌+◌, ◌<◌}
use Rattle.std.specs.Vec.Iter.{into_iter_items, into_iter_len}
use Rattle.worker_crew.specs.Tasks.{IsStarted, IsTask}
use Rattle.worker_crew.proofs.crew.join_all.Given as goal

abbrev pub invariant-loop-one : goal.invariant-loop-one
invariant-loop-one g l = record {
  count : vec_len l.tasks + into_iter_len l.one-iterator ≡ vec_len l.fn.started;
  rest : (k : ℕ) (d : _) → k < into_iter_len l.one-iterator → get_or (into_iter_items l.one-iterator) k d ≡ get_or l.fn.started.items (vec_len l.tasks + k) d;
  room : vec_len l.fn.started ≤ vec_capacity l.tasks;
  each : (i : ℕ) (d e : _) → i < vec_len l.tasks
      → (a : _) → IsStarted g.W.Worker.leads g.W.Worker.over a (get_or l.fn.started.items i d)
      → IsTask g.W.Worker.leads g.W.Worker.over a (get_or l.tasks.items i e);
}

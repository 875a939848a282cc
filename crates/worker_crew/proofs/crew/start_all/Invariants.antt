use Rattle.std.proofs.Common.{◌≡◌, ◌≤◌, ℕ, vec_len, vec_capacity, get_or, ◌+◌, ◌<◌}
use Rattle.std.specs.Vec.Iter.{into_iter_items, into_iter_len}
use Rattle.worker_crew.specs.Tasks.{IsStarted}
use Rattle.worker_crew.proofs.crew.start_all.Given as goal

abbrev pub invariant-loop-worker : goal.invariant-loop-worker
invariant-loop-worker g l = record {
  count : vec_len l.started + into_iter_len l.worker-iterator ≡ vec_len l.fn.workers;
  rest : (k : ℕ) (d : _) → k < into_iter_len l.worker-iterator
      → get_or (into_iter_items l.worker-iterator) k d ≡ get_or l.fn.workers.items (vec_len l.started + k) d;
  room : vec_len l.fn.workers ≤ vec_capacity l.started;
  each : (i : ℕ) (d e : _) → i < vec_len l.started → IsStarted g.W.Worker.leads g.W.Worker.over (get_or l.fn.workers.items i d) (get_or l.started.items i e);
}

use Rattle.std.proofs.Common.{◌≡◌, ◌≤◌, ◌+◌, ◌++◌, vec_len, vec_capacity}
use Rattle.std.specs.Vec.Iter.{into_iter_items, into_iter_len}
use Rattle.cluster_run.specs.Apart.{AreOfClients}
use Rattle.cluster_run.proofs.cores.client_parts.Given as goal

abbrev pub invariant-loop-task : goal.invariant-loop-task
invariant-loop-task g l = record {
  whole : l.fn.tasks.items ≡ l.yielded ++ into_iter_items l.task-iterator;
  had : AreOfClients l.short l.yielded l.cores.items l.rows.items l.requests.items;
  cores_fit : vec_len l.cores + into_iter_len l.task-iterator ≤ vec_capacity l.cores;
  rows_fit : vec_len l.rows + into_iter_len l.task-iterator ≤ vec_capacity l.rows;
  requests_fit : vec_len l.requests + into_iter_len l.task-iterator ≤ vec_capacity l.requests;
}

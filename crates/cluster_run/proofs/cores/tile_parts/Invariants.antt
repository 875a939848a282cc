use Rattle.std.proofs.Common.{◌≡◌, ◌≤◌, ◌+◌, ◌++◌, vec_len, vec_capacity}
use Rattle.std.specs.Vec.Iter.{into_iter_items, into_iter_len}
use Rattle.cluster_run.specs.Apart.{AreOfTiles}
use Rattle.cluster_run.proofs.cores.tile_parts.Given as goal

abbrev pub invariant-loop-task : goal.invariant-loop-task
invariant-loop-task g l = record {
  whole : l.fn.tasks.items ≡ l.yielded ++ into_iter_items l.task-iterator;
  had : AreOfTiles l.short l.yielded l.cores.items l.columns.items l.grants.items l.parts.items;
  cores_fit : vec_len l.cores + into_iter_len l.task-iterator ≤ vec_capacity l.cores;
  columns_fit : vec_len l.columns + into_iter_len l.task-iterator ≤ vec_capacity l.columns;
  grants_fit : vec_len l.grants + into_iter_len l.task-iterator ≤ vec_capacity l.grants;
  parts_fit : vec_len l.parts + into_iter_len l.task-iterator ≤ vec_capacity l.parts;
}

use Rattle.std.proofs.Common.{◌≡◌, ◌+◌, ◌++◌, ◌-◌, ◌≤◌}
use Rattle.std.specs.Prelude.{max}
use Rattle.std.specs.Vec.{vec_len, vec_capacity}
use Rattle.rc_base.specs.Orders.Order.{names_from}
use Rattle.serial_render.proofs.runs.add_names.Given as goal

abbrev pub invariant-loop-place : goal.invariant-loop-place
invariant-loop-place l = record {
  most : l.place ≤ max l.run.first (l.run.last + 1);
  names : l.names.items ≡ l.fn.names.items ++ names_from l.run.client l.run.first (l.place - l.run.first);
  room : vec_len l.names + (l.run.last + 1 - l.place) ≤ vec_capacity l.names;
}

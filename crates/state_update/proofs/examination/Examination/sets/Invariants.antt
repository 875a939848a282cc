use Rattle.std.proofs.Common.{◌≡◌, ◌+◌, ◌*◌, ◌≤◌}
use Rattle.std.specs.List.{flat_map, range_with_len}
use Rattle.element_table.specs.Groups.{group_start}
use Rattle.state_update.specs.Knowledge.{element_sets, looks_from}
use Rattle.state_update.proofs.examination.Examination.sets.Given as goal

abbrev pub invariant-loop-group : goal.invariant-loop-group
invariant-loop-group l = record {
  sets : l.sets ≡ flat_map (element_sets l.self.told.now l.self.context.now l.self.image) (range_with_len 0 (group_start l.group));
  looks : l.looks + looks_from l.self.dirty.now l.self.tile l.group ≡ l.fn.looks + l.group + looks_from l.self.dirty.now l.self.tile 0;
  risen : l.fn.looks ≤ l.looks;
  few : l.looks ≤ l.fn.looks + 17 * l.group;
}

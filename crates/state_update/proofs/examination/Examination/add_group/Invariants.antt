use Rattle.std.proofs.Common.{◌≡◌, ◌+◌, ◌-◌, ◌≤◌, ◌++◌}
use Rattle.std.specs.List.{flat_map, range_with_len}
use Rattle.element_table.specs.Groups.{group_start}
use Rattle.state_update.specs.Knowledge.{element_sets}
use Rattle.state_update.proofs.examination.Examination.add_group.Given as goal

abbrev pub invariant-loop-element : goal.invariant-loop-element
invariant-loop-element l = record {
  low : group_start l.group ≤ l.element;
  sets : l.sets ≡ l.fn.sets ++ flat_map (element_sets l.self.told.now l.self.context.now l.self.image) (range_with_len (group_start l.group) (l.element - group_start l.group));
  looks : l.looks ≡ l.fn.looks + 1 + (l.element - group_start l.group);
}

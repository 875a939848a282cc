use Rattle.std.proofs.Common.{◌*◌, ◌+◌, ◌-◌, take}
use Rattle.std.specs.List.{flat_map}
use Rattle.call_lists.specs.Expansion.{called, met_with}
use Rattle.call_lists.specs.Giving.{Adds}
use Rattle.call_lists.proofs.calls.+calls.Given as goal

abbrev pub decreases-meet_list : goal.decreases-meet_list
decreases-meet_list l = 2 * l.levels

abbrev pub decreases-meet_all : goal.decreases-meet_all
decreases-meet_all l = 2 * l.levels + 1

abbrev pub invariant-meet_list-loop-i : goal.invariant-meet_list-loop-i
invariant-meet_list-loop-i l = Adds l.fn.given l.given (flat_map (met_with (called l.lists (l.levels - 1))) (take l.i l.body))

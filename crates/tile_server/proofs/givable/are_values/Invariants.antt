use Rattle.std.proofs.Common.{◌≡◌, drop}
use Rattle.std.specs.List.{list_all}
use Rattle.rc_base.specs.declared.state.ElementSet.{ElementSet}
use Rattle.element_table.specs.Values.{is_value_of}
use Rattle.tile_server.proofs.givable.are_values.Given as goal

-- the sets so far are right, so the answer is that of what is left
abbrev pub invariant-loop-set : goal.invariant-loop-set
invariant-loop-set l =
    let test = λ (set : ElementSet). is_value_of l.decl set.element set.value in
    list_all test l.sets ≡ list_all test (drop l.set-index l.sets)

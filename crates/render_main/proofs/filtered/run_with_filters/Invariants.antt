use Rattle.std.proofs.Common.{◌≡◌, map, take}
use Rattle.render_main.proofs.filtered.run_with_filters.OwnLists as lists
use Rattle.render_main.proofs.filtered.run_with_filters.Given as goal

abbrev pub invariant-loop-rule : goal.invariant-loop-rule
invariant-loop-rule g l = map (λ b. ((lists.own-1).entry b.vtable).1.meaning b.value) l.chain.items ≡ take l.rule-index l.rule-items

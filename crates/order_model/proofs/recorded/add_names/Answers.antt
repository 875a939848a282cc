use Rattle.std.proofs.Common.{◌+◌, ◌-◌, ◌++◌, ap, ◌∙◌}
use Rattle.rc_base.specs.Orders.Order.{names_from}
use Rattle.order_model.proofs.CountedNames.{add_step}
use Rattle.order_model.proofs.recorded.add_names.Goals as goal

pub loop-place-preserved : goal.loop-place-preserved
loop-place-preserved c =
    ap (λ xs. xs ++ names_from c.args.client (c.loop-place.place + 1) (c.args.below - (c.loop-place.place + 1))) c.in_ok-push.ensures.items
    ∙ add_step c.loop-place.order c.args.client c.loop-place.place c.args.below c.loop-place-test.true
    ∙ c.loop-place.invariant

use Rattle.worked_examples.proofs.orders.a_giver_comes_first.Goals as goal
use Rattle.std.proofs.Common.{inl, inr, refl}
use Rattle.rc_base.specs.Orders.Order.Precedes.{HandedOver}
use Rattle.worked_examples.specs.Orders.{taken_too_soon, name}
use Rattle.order_model.proofs.StandsInLists.{not_both}

-- 0:1 gives what 1:0 takes
pub returns-clause-too_soon : goal.returns-clause-too_soon
returns-clause-too_soon c p =
    let o = taken_too_soon in
    not_both (name 0 1) (name 1 0) o p.once
    (p.sequence (name 0 1) (name 1 0) (inr (inr (inl refl))) (inr (inl refl)) (HandedOver 1 (inl refl)))
    (inr (inl (refl, inl refl)))

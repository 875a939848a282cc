use Rattle.std.proofs.Common.{◌∙◌, ◌≡◌, ◌+◌, ◌-◌, None, arith}
use Rattle.rc_base.specs.Orders.Grant.{take_by}
use Rattle.sync_manager.specs.Stored.{op_at, units_at}
use Rattle.sync_manager.proofs.FirstAnswers.{goes_on}
use Rattle.sync_manager.proofs.search.first_take.Goals as goal

pub loop-client-preserved : goal.loop-client-preserved
loop-client-preserved c =
    let k = c.loop-client.client in
    let none : take_by (units_at c.args.units.now) k (op_at c.args.waiting.now k) ≡ None = cc in
    goes_on (λ k. take_by (units_at c.args.units.now) k (op_at c.args.waiting.now k)) k (c.args.clients - k) (c.args.clients - (k + 1)) (omega arith) none ∙ c.loop-client.invariant

use Rattle.std.proofs.Common.{sym, arith}
use Rattle.order_model.proofs.ClientsBeyond.{reach_past}
use Rattle.order_model.proofs.walk.reach.Goals as goal

pub returns-then-client-ge8 : goal.returns-then-client-ge8
returns-then-client-ge8 c = sym (reach_past c.args.kept.now.syncs c.args.kept.now.journal c.args.client (omega arith))

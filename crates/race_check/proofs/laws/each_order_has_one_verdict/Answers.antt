use Rattle.race_check.proofs.OneVerdict.{one_verdict_holds}
use Rattle.race_check.proofs.laws.each_order_has_one_verdict.Goals as goal

pub returns : goal.returns
returns c = one_verdict_holds

use Rattle.call_lists.proofs.CommandsInRange.{expanded_in_range}
use Rattle.call_lists.proofs.laws.expansions_stay_in_range.Goals as goal

pub returns : goal.returns
returns c = expanded_in_range

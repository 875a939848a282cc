use Rattle.call_lists.proofs.CallsInPlace.{call_of_itself}
use Rattle.call_lists.proofs.laws.calls_end_at_the_eighth_list.Goals as goal

pub returns : goal.returns
returns c = call_of_itself

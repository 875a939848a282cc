use Rattle.call_lists.proofs.WholeStreams.{one_whole, all_whole}
use Rattle.call_lists.proofs.laws.expansions_are_whole.Goals as goal

pub returns : goal.returns
returns c = (one_whole, all_whole)

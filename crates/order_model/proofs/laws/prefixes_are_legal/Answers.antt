use Rattle.order_model.proofs.laws.prefixes_are_legal.Goals as goal
use Rattle.order_model.proofs.PrefixesAreLegal.{prefix_legal}

pub returns : goal.returns
returns c = prefix_legal

use Rattle.std.proofs.Common.{refl}
use Rattle.worked_examples.proofs.fragments.factors_go_by_their_names.Goals as goal

pub returns : goal.returns
returns c = refl

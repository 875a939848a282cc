use Rattle.state_update.proofs.NotPending.{not_pending}
use Rattle.state_update.proofs.laws.elements_that_are_not_pending_were_told.Goals as goal

pub returns : goal.returns
returns c = not_pending

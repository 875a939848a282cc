use Rattle.state_update.proofs.Parcels.{begins, goes_on, stays}
use Rattle.state_update.proofs.laws.trackers_follow_parcels.Goals as goal

pub returns-clause-first : goal.returns-clause-first
returns-clause-first c = begins

pub returns-clause-next : goal.returns-clause-next
returns-clause-next c = goes_on

pub returns-clause-quiet : goal.returns-clause-quiet
returns-clause-quiet c = stays

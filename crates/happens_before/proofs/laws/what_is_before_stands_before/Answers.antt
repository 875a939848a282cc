use Rattle.happens_before.proofs.BeforeStands.{before_stands, conflicts_ordered}
use Rattle.happens_before.proofs.laws.what_is_before_stands_before.Goals as goal

pub returns-clause-stands : goal.returns-clause-stands
returns-clause-stands c = before_stands

pub returns-clause-ordered : goal.returns-clause-ordered
returns-clause-ordered c = conflicts_ordered

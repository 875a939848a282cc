use Rattle.order_model.proofs.laws.default_journal_is_maximal.Goals as goal
use Rattle.order_model.proofs.DefaultJournalIsMaximal.{default_maximal}

pub returns : goal.returns
returns c = default_maximal

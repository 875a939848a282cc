use Rattle.order_model.proofs.laws.gathering_is_lawful.Goals as goal
use Rattle.order_model.proofs.GatheringIsLawful.{gathering_is_lawful}

pub returns : goal.returns
returns c = gathering_is_lawful

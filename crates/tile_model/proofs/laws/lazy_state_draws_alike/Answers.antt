use Rattle.tile_model.proofs.laws.lazy_state_draws_alike.Goals as goal
use Rattle.tile_model.proofs.LazyStateDrawsAlike.{lazy_draws}

pub returns : goal.returns
returns c = lazy_draws

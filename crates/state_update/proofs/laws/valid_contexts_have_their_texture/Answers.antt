use Rattle.state_update.proofs.Parcels.{has_texture}
use Rattle.state_update.proofs.laws.valid_contexts_have_their_texture.Goals as goal

pub returns : goal.returns
returns c = has_texture

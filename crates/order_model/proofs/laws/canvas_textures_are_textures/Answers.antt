use Rattle.order_model.proofs.laws.canvas_textures_are_textures.Goals as goal
use Rattle.order_model.proofs.OneFoldOfTextures.{canvas_textures}

pub returns : goal.returns
returns c = canvas_textures

use Rattle.tile_model.proofs.SwappedFramesStay.{swapped_frames_stay}
use Rattle.tile_model.proofs.laws.swapped_frames_stay.Goals as goal

pub returns : goal.returns
returns c = swapped_frames_stay

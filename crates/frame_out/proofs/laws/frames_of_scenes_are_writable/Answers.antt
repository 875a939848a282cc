use Rattle.frame_out.proofs.Writable.{frames_writable}
use Rattle.frame_out.proofs.laws.frames_of_scenes_are_writable.Goals as goal

pub returns : goal.returns
returns c = frames_writable c.swaps_are_few.ensures

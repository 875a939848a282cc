use Rattle.run_record.proofs.InFrames.{frames_in_order}
use Rattle.run_record.proofs.laws.frames_are_in_order.Goals as goal

pub returns : goal.returns
returns c = frames_in_order

use Rattle.show_fronts.proofs.FrontRecords.{serial_frames_stay}
use Rattle.show_fronts.proofs.laws.serial_frames_stay.Goals as goal

pub returns : goal.returns
returns c = serial_frames_stay

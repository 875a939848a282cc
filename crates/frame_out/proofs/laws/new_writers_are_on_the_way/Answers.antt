use Rattle.frame_out.proofs.WriterGoesOn.{new_writers}
use Rattle.frame_out.proofs.laws.new_writers_are_on_the_way.Goals as goal

pub returns : goal.returns
returns c = new_writers

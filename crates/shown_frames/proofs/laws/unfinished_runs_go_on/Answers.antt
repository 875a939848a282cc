use Rattle.shown_frames.proofs.GoOn.{unfinished_go_on}
use Rattle.shown_frames.proofs.laws.unfinished_runs_go_on.Goals as goal

pub returns : goal.returns
returns c = unfinished_go_on

use Rattle.run_record.proofs.FrameParts.{texts_are, whole_runs}
use Rattle.run_record.proofs.laws.whole_runs_show_frames.Goals as goal

pub returns-clause-shown : goal.returns-clause-shown
returns-clause-shown c = whole_runs c.each_pixel_has_one_tile.ensures

pub returns-clause-text : goal.returns-clause-text
returns-clause-text c = texts_are

use Rattle.run_record.proofs.RunsWritten.{runs_written}
use Rattle.run_record.proofs.laws.whole_runs_are_written.Goals as goal

pub returns : goal.returns
returns c = runs_written c.each_pixel_has_one_tile.ensures c.parts_show_their_pixels.ensures.pixels

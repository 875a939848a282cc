use Rattle.shown_frames.proofs.ShownImages.{shown_images}
use Rattle.shown_frames.proofs.laws.shown_frames_are_of_the_run.Goals as goal

pub returns : goal.returns
returns c = shown_images c.each_pixel_has_one_tile.ensures c.parts_show_their_pixels.ensures.pixels

use Rattle.tile_server.proofs.CoresStand.{shown_are_frames}
use Rattle.tile_server.proofs.laws.shown_parts_are_frames.Goals as goal

pub returns : goal.returns
returns c = shown_are_frames c.swaps_show_frames.ensures.recorded

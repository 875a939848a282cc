use Rattle.raster.proofs.Clipping.{both_is}
use Rattle.raster.proofs.clip.drawn_part.Goals as goal

pub returns : goal.returns
returns c = both_is c.args.state.now c.args.rect c.part_in.result c.scissored.result c.part_in.ensures c.scissored.ensures

use Rattle.std.proofs.Common.{refl}
use Rattle.run_words.proofs.asked.layout_of.Goals as goal

pub returns : goal.returns
returns c = c.tiles_asked.ensures c.args.scene.now refl

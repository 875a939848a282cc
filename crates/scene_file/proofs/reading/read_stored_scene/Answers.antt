use Rattle.scene_file.proofs.Answered.{answered}
use Rattle.scene_file.proofs.reading.read_stored_scene.Goals as goal

pub returns : goal.returns
returns c = answered c.args.bytes.now c.read_judged.result c.read_judged.ensures

use Rattle.scene_file.proofs.Answered.{answered}
use Rattle.scene_file.proofs.beside.read_scene_beside.Goals as goal

pub returns : goal.returns
returns g c = answered c.args.bytes.now c.judged_beside.result c.judged_beside.ensures

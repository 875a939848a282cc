use Rattle.scene_file.proofs.LimitsByParts.{judged_limit}
use Rattle.scene_file.proofs.limits.check_limits.Goals as goal

pub returns : goal.returns
returns c = judged_limit c.args.scene.now c.judge_scene.result c.judge_scene.ensures

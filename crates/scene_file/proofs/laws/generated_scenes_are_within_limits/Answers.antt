use Rattle.scene_file.proofs.GeneratedWithin.{generated_within}
use Rattle.scene_file.proofs.laws.generated_scenes_are_within_limits.Goals as goal

pub returns : goal.returns
returns c = generated_within

use Rattle.stream_replay.proofs.DeclaredOperations.{scene_declared}
use Rattle.tile_model.proofs.laws.operations_are_declared.Goals as goal

pub returns : goal.returns
returns c = scene_declared

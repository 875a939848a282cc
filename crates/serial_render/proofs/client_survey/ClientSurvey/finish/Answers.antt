use Rattle.std.proofs.Common.{arith}
use Rattle.rc_base.proofs.WithinLimits.{few_commands}
use Rattle.serial_render.proofs.client_survey.ClientSurvey.finish.Goals as goal

pub overflow_cast-row : goal.overflow_cast-row
overflow_cast-row g c = let few = few_commands (g.S.SceneStore.scene c.args.scene.now) c.requires.within.limits c.args.client in omega (arith, few, c.stream_length-length.ensures)

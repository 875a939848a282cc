use Rattle.std.proofs.Common.{arith}
use Rattle.rc_base.specs.Formats.Limits.{commands_in}
use Rattle.render_core.proofs.Inputs.{scene_few}
use Rattle.render_core.proofs.work.work_of.Goals as goal

pub filtered-requires : goal.filtered-requires
filtered-requires c κs =
    let few = scene_few κs.args.meant.scene κs.requires.within in κs.requires.ready.room (commands_in κs.args.meant.scene.streams) (omega (arith, few))

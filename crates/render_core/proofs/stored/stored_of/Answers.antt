use Rattle.rc_base.proofs.WithinLimits.{few_commands}
use Rattle.sort_last.proofs.ShortStreams.{all_short}
use Rattle.render_core.proofs.stored.stored_of.Goals as goal

pub of-requires : goal.of-requires
of-requires c = all_short c.args.scene.streams (few_commands c.args.scene c.requires.limits)

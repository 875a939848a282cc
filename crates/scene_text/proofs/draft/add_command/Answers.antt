use Rattle.scene_text.proofs.DraftsGrow.{adds_command}
use Rattle.scene_text.proofs.draft.add_command.Goals as goal

pub returns : goal.returns
returns c = rw c.in_ok-push.ensures.items (adds_command c.args.draft.now c.args.command c.requires)

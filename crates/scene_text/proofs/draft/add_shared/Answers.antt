use Rattle.scene_text.proofs.DraftsGrow.{adds_shared}
use Rattle.scene_text.proofs.draft.add_shared.Goals as goal

pub returns : goal.returns
returns c = rw c.in_ok-push.ensures.items (adds_shared c.args.draft.now c.args.size c.requires.draft c.requires.least c.requires.most)

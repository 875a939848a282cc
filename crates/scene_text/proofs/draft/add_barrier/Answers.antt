use Rattle.scene_text.proofs.DraftsGrow.{adds_barrier}
use Rattle.scene_text.proofs.draft.add_barrier.Goals as goal

pub returns : goal.returns
returns c = rw c.in_ok-push.ensures.items (adds_barrier c.args.draft.now c.args.count c.requires.draft c.requires.least c.requires.most)

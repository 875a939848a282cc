use Rattle.scene_text.proofs.DraftsGrow.{adds_semaphore}
use Rattle.scene_text.proofs.draft.add_semaphore.Goals as goal

pub returns : goal.returns
returns c = rw c.in_ok-push.ensures.items (adds_semaphore c.args.draft.now c.args.units c.requires.draft c.requires.least c.requires.most)

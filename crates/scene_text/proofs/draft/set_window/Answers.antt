use Rattle.scene_text.proofs.DraftsGrow.{adds_window}
use Rattle.scene_text.proofs.draft.set_window.Goals as goal

pub returns : goal.returns
returns c = adds_window c.args.draft.now c.args.version c.args.width c.args.height c.requires.draft c.requires.place

use Rattle.scene_text.proofs.PrintedSpells.{spells_printed}
use Rattle.scene_text.proofs.print.print_scene.Goals as goal

pub returns-clause-spells : goal.returns-clause-spells
returns-clause-spells c = spells_printed c.print_whole.result c.args.scene.now c.print_whole.ensures

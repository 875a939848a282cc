use Rattle.render_core.proofs.Judging.{findings_one}
use Rattle.render_core.proofs.laws.findings_are_one.Goals as goal

pub returns : goal.returns
returns c = findings_one c.bytes_spell_one_scene.ensures c.bytes_spell_one_list_scene.ensures c.forms_are_apart.ensures c.texts_spell_one_scene.ensures

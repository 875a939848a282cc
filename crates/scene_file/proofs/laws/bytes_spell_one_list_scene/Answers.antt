use Rattle.scene_file.proofs.BothForms.{one_list_scene}
use Rattle.scene_file.proofs.laws.bytes_spell_one_list_scene.Goals as goal

pub returns : goal.returns
returns c = one_list_scene

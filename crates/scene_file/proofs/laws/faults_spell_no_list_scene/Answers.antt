use Rattle.scene_file.proofs.BothForms.{fault_no_list_scene}
use Rattle.scene_file.proofs.laws.faults_spell_no_list_scene.Goals as goal

pub returns : goal.returns
returns c = fault_no_list_scene

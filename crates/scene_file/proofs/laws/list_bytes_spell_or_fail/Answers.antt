use Rattle.scene_file.proofs.BothForms.{list_scene_or_fault}
use Rattle.scene_file.proofs.laws.list_bytes_spell_or_fail.Goals as goal

pub returns : goal.returns
returns c = list_scene_or_fault

use Rattle.scene_file.proofs.BothForms.{scene_or_fault}
use Rattle.scene_file.proofs.laws.bytes_spell_or_fail.Goals as goal

pub returns : goal.returns
returns c = scene_or_fault

use Rattle.scene_file.proofs.BothForms.{never_both_forms}
use Rattle.scene_file.proofs.laws.forms_are_apart.Goals as goal

pub returns : goal.returns
returns c = never_both_forms

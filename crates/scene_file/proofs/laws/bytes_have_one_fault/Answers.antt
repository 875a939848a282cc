use Rattle.scene_file.proofs.BothForms.{one_fault}
use Rattle.scene_file.proofs.laws.bytes_have_one_fault.Goals as goal

pub returns : goal.returns
returns c = one_fault

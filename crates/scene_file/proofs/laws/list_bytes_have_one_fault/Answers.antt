use Rattle.scene_file.proofs.BothForms.{one_list_fault}
use Rattle.scene_file.proofs.laws.list_bytes_have_one_fault.Goals as goal

pub returns : goal.returns
returns c = one_list_fault

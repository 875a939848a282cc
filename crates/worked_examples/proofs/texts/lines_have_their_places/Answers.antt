use Rattle.std.proofs.Common.{refl}
use Rattle.scene_text.specs.Text.Read.{name_of, arguments_say}
use Rattle.scene_text.specs.Text.Faults.{fault_of_line, rank_after, text_fault}
use Rattle.worked_examples.proofs.texts.lines_have_their_places.Goals as goal

pub returns : goal.returns
unfolding name_of arguments_say fault_of_line rank_after text_fault
returns c = record { first = refl; once = refl; client = refl; shared_first = refl }

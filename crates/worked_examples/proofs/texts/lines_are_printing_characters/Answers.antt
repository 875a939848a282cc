use Rattle.std.proofs.Common.{refl}
use Rattle.scene_text.specs.Text.Read.{name_of, arguments_say}
use Rattle.scene_text.specs.Text.Faults.{fault_of_line, rank_after, text_fault}
use Rattle.worked_examples.proofs.texts.lines_are_printing_characters.Goals as goal

pub returns : goal.returns
unfolding name_of arguments_say fault_of_line rank_after text_fault
returns c = record { tab = refl; carriage_return = refl; return_alone = refl }

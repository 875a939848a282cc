use Rattle.std.proofs.Common.{refl}
use Rattle.scene_text.specs.Text.Read.{name_of, arguments_say}
use Rattle.scene_text.specs.Text.Faults.{fault_of_line, rank_after, text_fault}
use Rattle.worked_examples.proofs.texts.texels_are_hexadecimal.Goals as goal

pub returns : goal.returns
unfolding name_of arguments_say fault_of_line rank_after text_fault
returns c = record { fine = refl; digit = refl; short = refl }

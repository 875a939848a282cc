use Rattle.std.proofs.Common.{refl}
use Rattle.scene_text.specs.Text.Read.{name_of, arguments_say}
use Rattle.scene_text.specs.Text.Faults.{fault_of_line, rank_after, text_fault}
use Rattle.worked_examples.proofs.texts.words_are_known_by_their_lines.Goals as goal

pub returns : goal.returns
unfolding name_of arguments_say fault_of_line rank_after text_fault
returns c = record { fine = refl; unknown = refl; no_comment = refl }

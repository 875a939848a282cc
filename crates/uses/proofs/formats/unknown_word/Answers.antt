use Rattle.std.proofs.Common.{refl}
use Rattle.rc_base.specs.declared.scene.TextKind.TheVariants.{UnknownWord}
use Rattle.scene_text.specs.Text.Read.{name_of}
use Rattle.scene_text.specs.Text.Faults.{fault_of_line, rank_after, text_fault}
use Rattle.uses.proofs.formats.unknown_word.Goals as goal

pub returns : goal.returns
unfolding name_of fault_of_line rank_after text_fault
returns c = c.parse_scene.ensures.told 1 UnknownWord refl

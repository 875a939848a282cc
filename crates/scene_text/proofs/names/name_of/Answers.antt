use Rattle.std.proofs.Common.{sym, ◌∙◌}
use Rattle.scene_text.proofs.NamesFound.{command_name, declared_name}
use Rattle.scene_text.proofs.names.name_of.Goals as goal

pub returns-in-Some : goal.returns-in-Some
returns-in-Some c = sym (command_name c.args.word.now c.in-Some.opcode (sym c.in-Some.ensures))

pub returns-in-None : goal.returns-in-None
returns-in-None c = c.find_name.ensures ∙ sym (declared_name c.args.word.now (sym c.in-None.ensures))

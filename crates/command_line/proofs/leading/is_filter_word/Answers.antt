use Rattle.std.proofs.Common.{refl}
use Rattle.rc_base.specs.Colors.{rgba}
use Rattle.rc_base.specs.declared.command.Opcode.TheVariants as op
use Rattle.command_line.specs.Filters.Filter.{Recolour, Drop}
use Rattle.command_line.proofs.leading.is_filter_word.Goals as goal

pub returns-in-recolour : goal.returns-in-recolour
returns-in-recolour c = (λ _. (Recolour (rgba 0 0 0 0), c.in-recolour.is), λ _. refl)

pub returns-in-drop : goal.returns-in-drop
returns-in-drop c = (λ _. (Drop op.Swap, c.in-drop.is), λ _. refl)

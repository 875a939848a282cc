use Rattle.rc_base.specs.declared.command.Opcode.TheVariants as op
use Rattle.rc_base.specs.Formats.Commands.{ranges_of}
use Rattle.command_table.proofs.NumbersInRange.{length_in}
use Rattle.command_table.proofs.making.command_of.Goals as goal

pub matrix_of-requires : goal.matrix_of-requires
matrix_of-requires c = length_in (ranges_of op.LoadMatrix) c.args.numbers.now (rw c.in-LoadMatrix.is at c.requires.numbers)

pub matrix_of-requires-in-MultMatrix : goal.matrix_of-requires-in-MultMatrix
matrix_of-requires-in-MultMatrix c = length_in (ranges_of op.MultMatrix) c.args.numbers.now (rw c.in-MultMatrix.is at c.requires.numbers)

use Rattle.command_table.proofs.ByOpcode.{one_number}
use Rattle.command_table.proofs.laws.one_number.Goals as goal

pub returns : goal.returns
returns c = one_number

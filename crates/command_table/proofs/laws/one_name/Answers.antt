use Rattle.command_table.proofs.ByOpcode.{one_name}
use Rattle.command_table.proofs.laws.one_name.Goals as goal

pub returns : goal.returns
returns c = one_name

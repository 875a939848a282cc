use Rattle.command_line.proofs.FilterLines.{chain_tints, chain_room}
use Rattle.command_line.proofs.laws.named_rules_begin.Goals as goal

pub returns : goal.returns
returns c = λ words rules count chain. (chain_tints words rules count chain, chain_room words rules count chain)

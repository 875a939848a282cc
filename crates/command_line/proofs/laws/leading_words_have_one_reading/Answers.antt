use Rattle.command_line.proofs.FilterLines.{one_chain, chain_is_none}
use Rattle.command_line.proofs.laws.leading_words_have_one_reading.Goals as goal

pub returns-clause-one : goal.returns-clause-one
returns-clause-one c = λ words rules others count other first second. one_chain words rules count first others other second

pub returns-clause-none : goal.returns-clause-none
returns-clause-none c = chain_is_none

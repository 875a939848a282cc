use Rattle.command_line.proofs.FilterWords.{job_is_no_filter}
use Rattle.command_line.proofs.FilterLines.{empty_chain}
use Rattle.command_line.proofs.laws.lines_begin_no_filter.Goals as goal

pub returns-clause-empty : goal.returns-clause-empty
returns-clause-empty c = empty_chain

pub returns-clause-jobs : goal.returns-clause-jobs
returns-clause-jobs c = job_is_no_filter

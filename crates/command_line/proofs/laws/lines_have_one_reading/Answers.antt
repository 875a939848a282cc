use Rattle.command_line.proofs.Lines.{one_line}
use Rattle.command_line.proofs.laws.lines_have_one_reading.Goals as goal

pub returns : goal.returns
returns c = λ words job other ss others l k. one_line l k

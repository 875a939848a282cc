use Rattle.std.proofs.Common.{◌<◌, rules}
use Rattle.command_line.proofs.ValuesRead.{number_read}
use Rattle.command_line.proofs.values.number_or.Goals as goal

pub returns-in-Some-clause-none : goal.returns-in-Some-clause-none
returns-in-Some-clause-none c =
    let small : c.unwrap_or.result < 18446744073709551616 = search rules in
    (number_read c.args.text c.in-Some.text c.args.default c.unwrap_or.result c.number.result c.in-Some.is c.number.ensures small c.unwrap_or.ensures).none

pub returns-in-Some-clause-some : goal.returns-in-Some-clause-some
returns-in-Some-clause-some c =
    let small : c.unwrap_or.result < 18446744073709551616 = search rules in
    (number_read c.args.text c.in-Some.text c.args.default c.unwrap_or.result c.number.result c.in-Some.is c.number.ensures small c.unwrap_or.ensures).some

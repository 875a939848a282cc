use Rattle.std.proofs.Common.{◌<◌, rules}
use Rattle.command_line.proofs.ValuesRead.{tiles_read}
use Rattle.command_line.proofs.values.tiles_or_one.Goals as goal

pub returns-in-Some-clause-none : goal.returns-in-Some-clause-none
returns-in-Some-clause-none c =
    let columns : c.unwrap_or.result.0 < 18446744073709551616 = search rules in
    let rows : c.unwrap_or.result.1 < 18446744073709551616 = search rules in
    (tiles_read c.args.text c.in-Some.text c.unwrap_or.result c.tiles.result c.in-Some.is c.tiles.ensures columns rows c.unwrap_or.ensures).none

pub returns-in-Some-clause-some : goal.returns-in-Some-clause-some
returns-in-Some-clause-some c =
    let columns : c.unwrap_or.result.0 < 18446744073709551616 = search rules in
    let rows : c.unwrap_or.result.1 < 18446744073709551616 = search rules in
    (tiles_read c.args.text c.in-Some.text c.unwrap_or.result c.tiles.result c.in-Some.is c.tiles.ensures columns rows c.unwrap_or.ensures).some

use Rattle.std.proofs.Common.{rules}
use Rattle.race_check.proofs.FoundFirst.{none_found}
use Rattle.race_check.proofs.found.look.Goals as goal

pub returns-then-is_counted : goal.returns-then-is_counted
returns-then-is_counted c = none_found c.args.own c.args.clock.now c.args.cell.now c.args.spot c.args.best (search rules) (c.is_counted.ensures c.if-is_counted.true)

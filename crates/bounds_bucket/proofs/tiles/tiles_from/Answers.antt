use Rattle.std.proofs.Common.{arith}
use Rattle.bounds_bucket.proofs.TileSets.{moved, none_from}
use Rattle.bounds_bucket.proofs.tiles.tiles_from.Goals as goal

pub returns-then-start-lt32 : goal.returns-then-start-lt32
returns-then-start-lt32 c t few = moved c.args.columns c.args.start t few

pub returns-else-start-lt32 : goal.returns-else-start-lt32
returns-else-start-lt32 c t few = none_from c.args.columns c.args.start t few (let h = c.if-start-lt32.false in omega (arith, h))

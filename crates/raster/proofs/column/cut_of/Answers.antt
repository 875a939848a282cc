use Rattle.std.proofs.Common.{refl, arith}
use Rattle.std.proofs.lemmas.Int.{ints}
use Rattle.raster.proofs.column.cut_of.Goals as goal

pub column_of-requires-clause-one : goal.column_of-requires-clause-one
column_of-requires-clause-one c = c.if-is_column.ensures.one refl

pub column_of-requires-clause-order : goal.column_of-requires-clause-order
column_of-requires-clause-order c = let e = c.if-is_column.ensures.some refl in omega (arith, ints)

use Rattle.bounds_bucket.proofs.TileSets.{IsPutTogether}
use Rattle.bounds_bucket.proofs.tiles.meets.Given as goal

abbrev pub invariant-loop-row : goal.invariant-loop-row
invariant-loop-row l = IsPutTogether l.layout l.columns l.rows l.row l.met

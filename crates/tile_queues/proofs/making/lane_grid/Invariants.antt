use Rattle.tile_queues.specs.Grids.{IsNewGrid}
use Rattle.tile_queues.proofs.making.lane_grid.Given as goal

abbrev pub invariant-loop : goal.invariant-loop
invariant-loop g l = IsNewGrid l.depth l.counter l.receivers l.ins.items l.outs.items

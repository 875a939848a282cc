use Rattle.race_check.proofs.RangesOfCells.{AreMarkedTo}
use Rattle.race_check.proofs.cells.Cells.mark_all.Given as goal

abbrev pub invariant-loop-index : goal.invariant-loop-index
invariant-loop-index l = AreMarkedTo l.name l.fn.range l.index l.fn.self.cells.items l.self.cells.items

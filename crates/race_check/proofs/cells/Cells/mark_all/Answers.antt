use Rattle.std.proofs.Common.{arith}
use Rattle.race_check.proofs.RangesOfCells.{marked_all, marked_first, marked_more}
use Rattle.race_check.proofs.cells.Cells.mark_all.Goals as goal

pub loop-index-init : goal.loop-index-init
loop-index-init c = marked_first c.args.name c.args.range c.args.self.now.cells.items

pub loop-index-preserved : goal.loop-index-preserved
loop-index-preserved c =
    let inv = c.loop-index.invariant in
    marked_more c.args.name c.args.range c.loop-index.index c.args.self.now.cells.items c.loop-index.self.cells.items c.mark.new.self.cells.items inv (omega (arith, inv.size)) c.mark.ensures

pub mark-requires-clause-index : goal.mark-requires-clause-index
mark-requires-clause-index c = omega (arith, c.loop-index.invariant.size, c.requires.inside)

pub returns : goal.returns
returns c = marked_all c.args.name c.args.range c.loop-index.index c.args.self.now.cells.items c.loop-index.self.cells.items c.loop-index.invariant (omega arith)

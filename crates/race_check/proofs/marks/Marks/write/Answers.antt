use Rattle.std.proofs.Common.{None}
use Rattle.race_check.specs.Finds.{IsFoundIn, cell_at}
use Rattle.race_check.specs.declared.verdict.Spot.TheVariants.{Shared}
use Rattle.race_check.proofs.FoundFirst.{first_alone, first_then}
use Rattle.race_check.proofs.marks.Marks.write.Goals as goal

pub returns-clause-best : goal.returns-clause-best
returns-clause-best c =
    let own = c.args.name.client in
    let clock = c.args.clock.now in
    let t = c.args.texture in
    let w = IsFoundIn own clock (cell_at c.args.self.now.writers.cells.items t) (Shared t) in
    let r = IsFoundIn own clock (cell_at c.args.self.now.readers.cells.items t) (Shared t) in
    first_alone _ _ (first_then None c.look-written.result c.look-best.result w r _ c.look-written.ensures c.look-best.ensures (λ x k. k) (λ x k. k))

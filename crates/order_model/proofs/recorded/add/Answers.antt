use Rattle.std.proofs.Common.{arith, set, sym, subst}
use Rattle.order_model.specs.Counted.{AreCounts}
use Rattle.order_model.proofs.CountedNames.{added_by_counts, counts_raised, set_raised, same_raised}
use Rattle.order_model.proofs.recorded.add.Goals as goal

pub returns-then-from-below-clause-counts : goal.returns-then-from-below-clause-counts
returns-then-from-below-clause-counts c =
    let o = c.args.order.now in
    let counts = c.args.counts.now in
    let k = c.args.client in
    let p = c.args.below in
    let e = added_by_counts o c.add_names.new.order counts k p c.requires.counts c.in_ok-add_names.ensures in
    subst (λ x. AreCounts x (set counts k p)) (sym e) (counts_raised o counts (set counts k p) k p c.requires.counts (set_raised counts k p (omega arith) c.if-from-below.true))

pub returns-else-from-below-clause-counts : goal.returns-else-from-below-clause-counts
returns-else-from-below-clause-counts c =
    let o = c.args.order.now in
    let counts = c.args.counts.now in
    let k = c.args.client in
    let p = c.args.below in
    let e = added_by_counts o c.add_names.new.order counts k p c.requires.counts c.in_ok-add_names.ensures in
    subst (λ x. AreCounts x counts) (sym e) (counts_raised o counts counts k p c.requires.counts (same_raised counts k p c.if-from-below.false))

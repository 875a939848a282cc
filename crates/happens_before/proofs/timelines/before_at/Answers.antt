use Rattle.std.proofs.Common.{◌-◌, leb, leb-true, arith, rules, replicate, sym, get_or, []}
use Rattle.std.proofs.lemmas.Bool.{leb-false}
use Rattle.std.proofs.lemmas.List.Sorted.{IsPartitionPoint-from_clause, IsPartitionedBy-leb}
use Rattle.happens_before.specs.declared.timelines.Change.{Change}
use Rattle.happens_before.proofs.ChangesInTurn.{rising, before_none, before_some}
use Rattle.happens_before.proofs.timelines.before_at.Goals as goal

abbrev none : Change
none = record { from = 0; before = [] }

pub returns-then-count-eq0 : goal.returns-then-count-eq0
returns-then-count-eq0 c =
    let xs = c.args.changes.now in
    let parted = IsPartitionedBy-leb (λ (p : Change). p.from) xs c.args.place (rising 0 xs c.requires.0 c.requires.1) in
    let point = IsPartitionPoint-from_clause (λ (p : Change). leb p.from c.args.place) xs c.partition_point-count.result c.partition_point-count.ensures.partitioned parted (λ a r q k. search rules) in
    sym (before_none xs (replicate 8 0) c.args.place none (λ k lt. leb-false (get_or xs k none).from c.args.place (point.1 k none (omega arith) lt)))

pub returns : goal.returns
returns c =
    let xs = c.args.changes.now in
    let n = c.partition_point-count.result in
    let parted = IsPartitionedBy-leb (λ (p : Change). p.from) xs c.args.place (rising 0 xs c.requires.0 c.requires.1) in
    let point = IsPartitionPoint-from_clause (λ (p : Change). leb p.from c.args.place) xs n c.partition_point-count.ensures.partitioned parted (λ a r q k. search rules) in
    sym (before_some xs (replicate 8 0) c.args.place (n - 1) none (omega arith)
    (λ k le. leb-true (get_or xs k none).from c.args.place (point.0 k none (omega arith) (omega arith)))
    (λ k lt le. leb-false (get_or xs k none).from c.args.place (point.1 k none (omega arith) le)))

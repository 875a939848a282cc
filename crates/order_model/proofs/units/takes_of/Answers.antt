use Rattle.std.proofs.Common.{arith, ap, length, slice_index}
use Rattle.std.proofs.lemmas.List.{get_or_past, drop_all}
use Rattle.order_model.specs.Checked.{takes_in}
use Rattle.order_model.proofs.RecordedByCounts.{zeros}
use Rattle.order_model.proofs.units.takes_of.Goals as goal

pub loop-entry-init : goal.loop-entry-init
loop-entry-init c = record {
  room = ap length c.no_takes-takes.ensures;
  most = λ s. omega (arith, ap (λ xs. slice_index xs s) c.no_takes-takes.ensures, zeros 256 s);
  takes = λ s. omega (arith, ap (λ xs. slice_index xs s) c.no_takes-takes.ensures, zeros 256 s);
}

pub returns-clause-names : goal.returns-clause-names
returns-clause-names c s ge =
    let inv = c.loop-entry.invariant in
    omega (
      arith,
      inv.takes s,
      get_or_past c.loop-entry.takes s 0 (omega (arith, inv.room)),
      ap (takes_in s) (drop_all c.loop-entry.entry-index c.args.journal.now (omega arith)),
    )

use Rattle.std.proofs.Common.{arith, inl, inr, sym, ◌∙◌}
use Rattle.std.proofs.lemmas.Bool.{cases_lt}
use Rattle.std.proofs.lemmas.List.{get_or_past}
use Rattle.order_model.proofs.ClientsBeyond.{reach_past}
use Rattle.order_model.proofs.permitted.reaches.Goals as goal

pub returns-clause-ends : goal.returns-clause-ends
returns-clause-ends c d = elim (cases_lt d 8) [
  | inl lt ↦ c.loop-client.invariant.1 d (omega arith)
  | inr ge ↦ get_or_past c.loop-client.ends d 0 (omega (arith, c.loop-client.invariant.0)) ∙ sym (reach_past c.args.syncs.now c.args.journal.now d (omega (arith, c.requires)))
]

use Rattle.std.proofs.Common.{subst}
use Rattle.step_core.specs.Steps.{Turns}
use Rattle.step_core.proofs.RoundsGoOn.{attempts, lacks}
use Rattle.step_core.proofs.cluster.Cluster.attempt.Goals as goal

pub returns-in-Ok : goal.returns-in-Ok
returns-in-Ok c =
    attempts c.ample_turns_are_moves.ensures.next c.args.number c.args.self.now c.step.new.self c.in-Ok.made c.outcome_of.result c.outcome_of.ensures
    (subst (λ r. Turns c.args.number c.args.self.now r c.step.new.self) c.in-Ok.is c.step.ensures.turn) c.step.ensures.lacking

pub returns-in-Err : goal.returns-in-Err
returns-in-Err c =
    lacks c.args.number c.args.self.now c.step.new.self _ (subst (λ r. Turns c.args.number c.args.self.now r c.step.new.self) c.in-Err.is c.step.ensures.turn)

use Rattle.std.proofs.Common.{◌+◌, sym, subst, arith}
use Rattle.step_core.specs.Rounds.{IsRoundBelow}
use Rattle.step_core.proofs.RoundsGoOn.{all_actors, round_goes_on, still_seen, same_actors}
use Rattle.step_core.proofs.cluster.Cluster.round.Goals as goal

pub attempt-requires-clause-seen : goal.attempt-requires-clause-seen
attempt-requires-clause-seen c = still_seen c.loop-number.number c.args.self.now c.loop-number.self c.loop-number.round c.requires c.loop-number.invariant

pub attempt-requires-clause-number : goal.attempt-requires-clause-number
attempt-requires-clause-number c =
    let same = same_actors c.loop-number.number c.args.self.now c.loop-number.self c.loop-number.round c.requires c.loop-number.invariant in
    let less = c.loop-number-test.true in
    let end = c.loop-number.auto.number-end in
    let all = c.actors-number-end.ensures in
    omega (arith, same, less, end, all)

pub loop-number-preserved : goal.loop-number-preserved
loop-number-preserved c =
    subst (λ r. IsRoundBelow (c.loop-number.number + 1) c.args.self.now r c.attempt.new.self) (sym c.with-round.ensures)
    (round_goes_on c.loop-number.number c.args.self.now c.loop-number.self c.attempt.new.self c.loop-number.round c.attempt.result c.loop-number.invariant c.attempt.ensures)

pub returns : goal.returns
returns c =
    let end = c.loop-number.auto.number-end in
    let all = c.actors-number-end.ensures in
    let more = c.loop-number-test.false in
    all_actors c.args.self.now c.loop-number.self c.loop-number.round c.loop-number.number (omega (arith, end, all, more)) c.loop-number.invariant

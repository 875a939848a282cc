use Rattle.std.proofs.Common.{◌∙◌, ◌≡◌, ◌+◌, ◌-◌, None, length, arith}
use Rattle.sync_manager.specs.Stored.{meet_at}
use Rattle.sync_manager.proofs.FirstAnswers.{goes_on}
use Rattle.sync_manager.proofs.search.first_meet.Goals as goal

pub loop-before-preserved : goal.loop-before-preserved
loop-before-preserved c =
    let k = c.loop-before.before in
    let f = meet_at c.args.counts.now c.args.waiting.now c.args.clients in
    let none : f (k + 1) ≡ None = cc in
    goes_on f (k + 1) (length c.args.counts.now - k) (length c.args.counts.now - (k + 1)) (omega arith) none ∙ c.loop-before.invariant

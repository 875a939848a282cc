use Rattle.std.proofs.Common.{sym, ap, ◌∙◌}
use Rattle.crossbeam_queue.specs.Passes.{ruled_capacity}
use Rattle.tile_queues.proofs.Keeps.{appends, within_sent}
use Rattle.tile_queues.proofs.lanes.LaneInOutlet.push.Goals as goal

pub push_as-answer-requires-clause-rule : goal.push_as-answer-requires-clause-rule
push_as-answer-requires-clause-rule g c = let a = c.args.self.now in (appends (ruled_capacity c.deref.result.now) _ _ _ a.sends (a.deep ∙ sym (ap (λ q. ruled_capacity q) c.deref.ensures)), within_sent _ _ a.sends)

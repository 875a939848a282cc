use Rattle.std.proofs.Common.{true, ◌∙◌}
use Rattle.cluster_run.proofs.tile.asks.Goals as goal

pub returns-in-Some : goal.returns-in-Some
returns-in-Some c low = c.in-Some.ensures.lookup.3.1 true ∙ c.asked.ensures c.args.client low

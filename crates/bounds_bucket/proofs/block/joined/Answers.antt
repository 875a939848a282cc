use Rattle.bounds_bucket.proofs.EndsOfCorners.{spans_both}
use Rattle.bounds_bucket.proofs.block.joined.Goals as goal

pub returns : goal.returns
returns c = spans_both c.args.a c.args.b (record { across = c.both.result; up = c.both-2.result }) c.both.ensures c.both-2.ensures

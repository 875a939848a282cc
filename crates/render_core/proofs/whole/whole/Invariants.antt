use Rattle.std.proofs.Common.{◌≡◌}
use Rattle.render_core.proofs.whole.whole.Given as goal

abbrev pub invariant-loop-stream : goal.invariant-loop-stream
invariant-loop-stream l = l.streams ≡ l.yielded

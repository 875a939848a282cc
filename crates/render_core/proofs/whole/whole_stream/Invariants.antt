use Rattle.std.proofs.Common.{◌≡◌, take}
use Rattle.render_core.proofs.whole.whole_stream.Given as goal

abbrev pub invariant-loop-place : goal.invariant-loop-place
invariant-loop-place l = l.commands ≡ take l.place l.stream

use Rattle.std.proofs.Common.{slice_index}
use Rattle.happens_before.specs.Timelines.{places_in}
use Rattle.happens_before.proofs.GatesOfMembers.{IsRaisedBelow}
use Rattle.happens_before.proofs.walk.raise_members.Given as goal

abbrev pub invariant-loop-client : goal.invariant-loop-client
invariant-loop-client l = IsRaisedBelow l.fn.timelines.clients.items l.timelines.clients.items (places_in l.at) l.client (slice_index l.gate)

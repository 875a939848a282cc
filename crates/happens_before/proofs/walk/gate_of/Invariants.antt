use Rattle.std.proofs.Common.{◌≡◌, length, slice_index}
use Rattle.happens_before.specs.Timelines.{places_in, clock_of}
use Rattle.happens_before.proofs.GatesOfMembers.{IsGateBelow}
use Rattle.happens_before.proofs.walk.gate_of.Given as goal

abbrev pub invariant-loop-client : goal.invariant-loop-client
invariant-loop-client l = record {
  slots : length l.gate ≡ 8;
  gate : IsGateBelow (clock_of l.timelines.clients.items) (places_in l.at) l.client (slice_index l.gate);
}

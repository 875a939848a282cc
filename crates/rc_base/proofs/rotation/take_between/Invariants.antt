use Rattle.std.proofs.Common.{◌≡◌, ◌<◌, ◌≤◌}
use Rattle.rc_base.specs.Cluster.Lanes.{EachLane, IsAsked}
use Rattle.rc_base.specs.Outside.Causes.{Rose}
use Rattle.rc_base.proofs.rotation.take_between.Given as goal

abbrev pub invariant-loop-i : goal.invariant-loop-i
invariant-loop-i g l = record {
  lanes : EachLane (λ i a b. g.I.Inlet.lane_of b ≡ g.I.Inlet.lane_of a) l.fn.lanes l.lanes;
  none : EachLane (λ i a b. g.I.Inlet.same a b) l.fn.lanes l.lanes;
  bare : EachLane (λ i a b. l.low ≤ i → i < l.i → IsAsked l.asks i → Rose (g.I.Inlet.empty_seen a) (g.I.Inlet.empty_seen b) × g.I.Inlet.bare b) l.fn.lanes l.lanes;
  below : EachLane (λ i a b. i < l.low → b ≡ a) l.fn.lanes l.lanes;
  later : EachLane (λ i a b. l.i ≤ i → b ≡ a) l.fn.lanes l.lanes;
}

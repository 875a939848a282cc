use Rattle.std.proofs.Common.{◌≡◌, ◌<◌, ◌≤◌}
use Rattle.rc_base.specs.Cluster.Lanes.{EachLane}
use Rattle.assembler.specs.Places.{IsDropped}
use Rattle.assembler.proofs.lanes.drop_parts.Given as goal

abbrev pub invariant-loop-tile : goal.invariant-loop-tile
invariant-loop-tile g l = record {
  lane_of : EachLane (λ i a b. g.I.Inlet.lane_of b ≡ g.I.Inlet.lane_of a) l.fn.lanes l.lanes;
  dropped : EachLane (λ i a b. i < l.tile → IsDropped g.I.Inlet.gave g.I.Inlet.same g.I.Inlet.empty_seen g.I.Inlet.bare a b) l.fn.lanes l.lanes;
  later : EachLane (λ i a b. l.tile ≤ i → b ≡ a) l.fn.lanes l.lanes;
}

use Rattle.std.proofs.Common.{◌≡◌, ℕ, ◌<◌, ◌≤◌, true, false, Some, length}
use Rattle.rc_base.specs.Cluster.Lanes.{EachLane}
use Rattle.rc_base.specs.declared.cluster.TilePart.{TilePart}
use Rattle.assembler.specs.Drawn.{IsDrawn}
use Rattle.assembler.specs.Places.{IsFound, fits, in_place, is_misfit}
use Rattle.assembler.proofs.lanes.take_parts.Given as goal

abbrev pub invariant-loop-tile : goal.invariant-loop-tile
invariant-loop-tile g l = record {
  lane_of : EachLane (λ i a b. g.I.Inlet.lane_of b ≡ g.I.Inlet.lane_of a) l.fn.lanes l.lanes;
  found : EachLane (λ i a b. i < l.tile → IsFound g.I.Inlet.gave g.I.Inlet.same g.I.Inlet.empty_seen g.I.Inlet.bare (in_place l.fn.places i) a (in_place l.places i) b) l.fn.lanes l.lanes;
  later : EachLane (λ i a b. l.tile ≤ i → b ≡ a) l.fn.lanes l.lanes;
  waiting : (i : ℕ) → l.tile ≤ i → in_place l.places i ≡ in_place l.fn.places i;
  size : length l.rgb ≡ length l.fn.rgb;
  misfit : l.misfit ≡ true → (k : ℕ) × (k < l.tile) × (is_misfit l.layout k (in_place l.places k) ≡ true);
  fit : l.misfit ≡ false → (k : ℕ) → is_misfit l.layout k (in_place l.places k) ≡ false;
  drawn : (k : ℕ) (p : TilePart) → in_place l.places k ≡ Some p → fits l.layout k p ≡ true → IsDrawn l.layout l.rgb k p;
}

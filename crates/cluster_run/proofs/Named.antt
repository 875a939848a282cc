-- Ends keep their lanes.
use Rattle.std.proofs.Common.{◌≡◌, ℕ, List, ◌∙◌, arith}
use Rattle.rc_base.specs.Cluster.Lanes.{EachLane}
use Rattle.tile_queues.specs.Ends.{lane_in, lane_out}
use Rattle.tile_queues.specs.declared.ends.LaneIn.{LaneIn}
use Rattle.tile_queues.specs.declared.ends.LaneOut.{LaneOut}
use Rattle.tile_queues.specs.Names.{AreInto, AreOutOf}

module _ {T R : Type 0} (count : ℕ) (names : ℕ → List ℕ) where
  pub into_goes_on : (xs ys : List (LaneIn T R)) → AreInto count names xs → EachLane (λ i a b. lane_in b ≡ lane_in a) xs ys → AreInto count names ys
  into_goes_on xs ys h each = record {
    size = each.count ∙ h.size;
    named = λ i d low. let n = h.size in each.at i d (omega arith) ∙ h.named i d low;
  }

  pub out_goes_on : (xs ys : List (LaneOut T R)) → AreOutOf count names xs → EachLane (λ i a b. lane_out b ≡ lane_out a) xs ys → AreOutOf count names ys
  out_goes_on xs ys h each = record {
    size = each.count ∙ h.size;
    named = λ i d low. let n = h.size in each.at i d (omega arith) ∙ h.named i d low;
  }

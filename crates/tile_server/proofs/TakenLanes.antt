-- What the clients' lanes gave, by the deed.
use Rattle.std.proofs.Common.{◌≡◌, ◌≢◌, ℕ, ◌==◌, Bool, true, false, List, Some, None, cond, ◌⊎◌, inl, inr, refl, sym, ◌∙◌, subst, true≢false, eq-eqb, eqb-true}
use Rattle.std.specs.Prelude.{MatchOption, slice_index_or}
use Rattle.rc_base.specs.Cluster.Lanes.{EachLane}
use Rattle.rc_base.specs.declared.state.Parcel.{Parcel}
use Rattle.rc_base.specs.declared.sync.Grant.{Grant}
use Rattle.order_model.specs.Standing.{Progress}
use Rattle.tile_server.specs.Cores.{is_short, next_of, AreTaken, IsHeard}
use Rattle.tile_server.specs.Deeds.{granted_of, IsFoundEmpty}
use Rattle.tile_server.specs.Tasks.{LeavesClients}
use Rattle.tile_server.specs.declared.deed.Taking.{Taking}
use Rattle.tile_server.specs.declared.deed.TileDeed.{TileDeed}
use Rattle.tile_server.specs.declared.deed.TileDeed.TheVariants.{Takes, Rests, Finishes}
use Rattle.tile_server.specs.declared.tile_core.TileCore.{TileCore}

module _ {I : Type 0} (gave : I → Parcel → I → Type 0) (same : I → I → Type 0) (before after : List I) where
  one : (i client : ℕ) (parcel : Parcel) (a b : I) → (i ≡ client → gave a parcel b) → (i ≢ client → same a b) → (t : Bool) → (i == client) ≡ t
      → MatchOption (cond t (Some parcel) None) (same a b) (λ x. gave a x b)
  one i client parcel a b given others true e = given (eqb-true i client e)
  one i client parcel a b given others false e = others (λ is. absurd (true≢false (sym (eq-eqb i client is) ∙ e)))

  -- of one client a parcel was taken
  pub taken_from : (client : ℕ) (parcel : Parcel) (how : Taking) → EachLane (λ i a b. i ≡ client → gave a parcel b) before after
      → EachLane (λ i a b. i ≢ client → same a b) before after → AreTaken gave same (Takes client parcel how) before after
  taken_from client parcel how given others = record {
    count = given.count;
    at = λ i x low. one i client parcel (slice_index_or before i x) (slice_index_or after i x) (given.at i x low) (others.at i x low) (i == client) refl;
  }

  -- no client has a parcel
  pub none_taken : (deed : TileDeed) → (deed ≡ Rests) ⊎ (deed ≡ Finishes) → EachLane (λ i a b. same a b) before after → AreTaken gave same deed before after
  none_taken deed (inl is) e = subst (λ d. AreTaken gave same d before after) (sym is) record { count = e.count; at = e.at }
  none_taken deed (inr is) e = subst (λ d. AreTaken gave same d before after) (sym is) record { count = e.count; at = e.at }

-- no lane is called
pub left_lanes : {I : Type 0} (gave : I → Parcel → I → Type 0) (same : I → I → Type 0) (here : (a : I) → same a a) (lanes : List I) (deed : TileDeed)
    → LeavesClients deed → AreTaken gave same deed lanes lanes
left_lanes gave same here lanes deed leaves = record {
  count = refl;
  at = λ i x low. subst (λ t. MatchOption t (same (slice_index_or lanes i x) (slice_index_or lanes i x)) (λ p. gave (slice_index_or lanes i x) p (slice_index_or lanes i x)))
      (sym (leaves.none i)) (here (slice_index_or lanes i x));
}

pub left_unseen : {I : Type 0} (R : I → I → Type 0) (lanes : List I) (core : TileCore) (deed : TileDeed) (p : Progress) → LeavesClients deed
    → EachLane (λ i a b. IsFoundEmpty (is_short core) p (next_of core) deed i → R a b) lanes lanes
left_unseen R lanes core deed p leaves = record { count = refl; at = λ i x low found. absurd (leaves.nowhere (is_short core) p (next_of core) i found) }

-- the lane of grants isn't called
pub left_grants : {J : Type 0} (gave : J → Grant → J → Type 0) (same : J → J → Type 0) (here : (a : J) → same a a) (lane : J) (deed : TileDeed)
    → granted_of deed ≡ None → IsHeard gave same deed lane lane
left_grants gave same here lane deed none = subst (λ t. MatchOption t (same lane lane) (λ x. gave lane x lane)) (sym none) (here lane)

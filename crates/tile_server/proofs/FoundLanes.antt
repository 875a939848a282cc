-- Lanes that a step found empty, by the lanes that were asked.
use Rattle.std.proofs.Common.{◌≡◌, ℕ, ◌<◌, Bool, true, false, List, length, ◌⊎◌, inl, inr, sym, ◌∙◌, subst, slice_index_or, true≢false}
use Rattle.rc_base.specs.Cluster.Lanes.{EachLane, IsAsked, IsEarlier}
use Rattle.rc_base.specs.declared.state.Parcel.{Parcel}
use Rattle.order_model.specs.Standing.{Progress}
use Rattle.tile_server.specs.Cores.{clients_of, is_short, next_of, IsProgressOf}
use Rattle.tile_model.specs.Short.{asks}
use Rattle.tile_server.specs.Deeds.{IsFoundEmpty, IsUnheard}
use Rattle.tile_server.specs.Tasks.{asks_in, listens_in}
use Rattle.tile_server.specs.declared.deed.Taking.{Taking}
use Rattle.tile_server.specs.declared.deed.TileDeed.{TileDeed}
use Rattle.tile_server.specs.declared.deed.TileDeed.TheVariants.{Performs, Shows, Fails, Learns, Takes, Rests, Finishes}
use Rattle.tile_server.specs.declared.tile_core.TileCore.{TileCore}
use Rattle.tile_server.proofs.TileSteps.{asks_is, listens_is}

module _ {I : Type 0} (R : I → I → Type 0) (before after : List I) (core : TileCore) (p : Progress) (h : IsProgressOf core p)
    (lanes : length before ≡ clients_of core)
    (asked : List Bool) (wanted : (i : ℕ) → i < clients_of core → slice_index_or asked i true ≡ asks_in core i) where
  is_asked : (i : ℕ) → i < length before → asks (is_short core) p i ≡ true → IsAsked asked i
  is_asked i lt t = wanted i (subst (λ n. i < n) lanes lt) ∙ asks_is core p h i ∙ t

  -- a parcel of a client was taken
  pub passed : (client : ℕ) (parcel : Parcel) (how : Taking) → EachLane (λ i a b. IsEarlier (next_of core) client i → IsAsked asked i → R a b) before after
      → EachLane (λ i a b. IsFoundEmpty (is_short core) p (next_of core) (Takes client parcel how) i → R a b) before after
  passed client parcel how e = record {
    count = e.count;
    at = λ i x lt found. e.at i x lt found.0 (is_asked i lt found.1);
  }

  -- no client has a parcel
  pub bare : (deed : TileDeed) → (deed ≡ Rests) ⊎ (deed ≡ Finishes) → EachLane (λ i a b. IsAsked asked i → R a b) before after
      → EachLane (λ i a b. IsFoundEmpty (is_short core) p (next_of core) deed i → R a b) before after
  bare deed (inl is) e = subst (λ d. EachLane (λ i a b. IsFoundEmpty (is_short core) p (next_of core) d i → R a b) before after) (sym is) record {
    count = e.count;
    at = λ i x lt t. e.at i x lt (is_asked i lt t);
  }
  bare deed (inr is) e = subst (λ d. EachLane (λ i a b. IsFoundEmpty (is_short core) p (next_of core) d i → R a b) before after) (sym is) record {
    count = e.count;
    at = λ i x lt t. e.at i x lt (is_asked i lt t);
  }

-- a tile that takes no grant doesn't find the lane of grants empty
pub unlistened : (core : TileCore) (p : Progress) (deed : TileDeed) → IsProgressOf core p → listens_in core ≡ false → IsUnheard (is_short core) p deed → ⊥
unlistened core p (Performs e) h deaf found = found
unlistened core p (Shows part) h deaf found = found
unlistened core p Fails h deaf found = found
unlistened core p (Learns g) h deaf found = found
unlistened core p (Takes client parcel how) h deaf found = true≢false (sym found ∙ sym (listens_is core p h) ∙ deaf)
unlistened core p Rests h deaf found = true≢false (sym found ∙ sym (listens_is core p h) ∙ deaf)
unlistened core p Finishes h deaf found = true≢false (sym found ∙ sym (listens_is core p h) ∙ deaf)

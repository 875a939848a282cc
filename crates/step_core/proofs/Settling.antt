-- The ports to a tile are settled one client after the other.
use Rattle.std.proofs.Common.{◌≡◌, ℕ, ◌+◌, ◌<◌, ◌≤◌, List, length, inl, inr, refl, sym, ◌∙◌, subst, arith}
use Rattle.std.proofs.lemmas.Bool.{cases_lt}
use Rattle.std.specs.Prelude.{slice_index_or, Vec}
use Rattle.std.specs.Global.{Global}
use Rattle.rc_base.specs.declared.plain_lane.PlainLane.{PlainLane}
use Rattle.rc_base.specs.declared.state.Parcel.{Parcel}
use Rattle.rc_base.proofs.Paired.{same_default}
use Rattle.step_core.specs.Settling.{CanSettle, CanSettleIn, CanSettleTo, AreSettled, AreSettledBelow, IsSettledIn, IsSettledTo}
use Rattle.step_core.specs.declared.port.Port.{Port}

pub settling_begins : (tile : ℕ) (ports : List (Vec Port Global)) (lanes : List (PlainLane Parcel)) → AreSettledBelow 0 tile ports ports lanes
settling_begins tile ports lanes = record { count = refl; settled = λ i r d lt inside. absurd (omega (arith, lt)); rest = λ i r more. refl }

module _ (n tile : ℕ) (ports now : List (Vec Port Global)) (lanes : List (PlainLane Parcel)) where
  pub can_settle_next : CanSettle tile ports lanes → AreSettledBelow n tile ports now lanes → n < length ports → (d : PlainLane Parcel)
      → CanSettleTo n tile now (slice_index_or lanes n d)
  can_settle_next can h lt d = record {
    row_in = (let e = h.count in omega (arith, e, lt));
    can = λ r. subst (λ (x : Vec Port Global). CanSettleIn tile x.items (slice_index_or lanes n d)) (sym (h.rest n r (omega arith))) (can.each n r d lt);
  }

  pub settling_goes_on : (later : List (Vec Port Global)) → length lanes ≡ length ports → AreSettledBelow n tile ports now lanes → n < length ports → (d : PlainLane Parcel)
      → IsSettledTo n tile now later (slice_index_or lanes n d) → AreSettledBelow (n + 1) tile ports later lanes
  settling_goes_on later lanes_count h lt d k = record {
    count = k.changed.count ∙ h.count;
    settled = λ i r e low inside. elim (cases_lt i n) [
      | inl below ↦ subst (λ (x : Vec Port Global). IsSettledIn tile (slice_index_or ports i r).items x.items (slice_index_or lanes i e))
          (sym (k.changed.others i r (λ is. (omega (arith, below, is))))) (h.settled i r e below inside)
      | inr more ↦
          let same : n ≡ i = omega (arith, low, more) in
          subst (λ i. IsSettledIn tile (slice_index_or ports i r).items (slice_index_or later i r).items (slice_index_or lanes i e)) same
          (subst (λ (x : PlainLane Parcel). IsSettledIn tile (slice_index_or ports n r).items (slice_index_or later n r).items x)
          (same_default lanes n d e (omega (arith, lanes_count, lt)))
          (subst (λ (x : Vec Port Global). IsSettledIn tile (slice_index_or ports n r).items x.items (slice_index_or lanes n d)) (sym (k.changed.is r))
          (subst (λ (x : Vec Port Global). IsSettledIn tile x.items k.line'.items (slice_index_or lanes n d)) (sym (k.changed.was r) ∙ h.rest n r (omega arith)) k.settled)))
    ];
    rest = λ i r more. k.changed.others i r (λ is. (omega (arith, more, is))) ∙ h.rest i r (omega (arith, more));
  }

  pub settling_ends : AreSettledBelow n tile ports now lanes → length ports ≤ n → AreSettled tile ports now lanes
  settling_ends h all = record { count = h.count; settled = λ i r d inside. h.settled i r d (omega (arith, inside, all)) inside }

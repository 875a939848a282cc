-- After a tile's step the clients' ports to it tell of its lanes.
use Rattle.std.proofs.Common.{◌≡◌, ◌≢◌, ℕ, ◌<◌, List, length, refl, sym, ap, ◌∙◌, subst, arith}
use Rattle.std.specs.Prelude.{slice_index_or, Vec}
use Rattle.std.specs.Global.{Global}
use Rattle.rc_base.specs.Cluster.PlainLanes.{held}
use Rattle.rc_base.specs.declared.plain_lane.PlainLane.{PlainLane}
use Rattle.rc_base.specs.declared.state.Parcel.{Parcel}
use Rattle.rc_base.proofs.Paired.{some_item}
use Rattle.plain_lemmas.proofs.Numbers.{at_one_or_other}
use Rattle.step_core.specs.Settling.{CanSettle, AreSettled}
use Rattle.step_core.specs.Worlds.{AreLanesOf, IsEmptyPort, IsPortRow, ArePortsOf}
use Rattle.step_core.specs.declared.port.Port.{Port}
use Rattle.step_core.proofs.Lanes.{fits}

module _ (depth clients tiles tile : ℕ) (items now : ℕ → ℕ → List Parcel) (ports : List (Vec Port Global)) (lanes : List (PlainLane Parcel)) (lt : tile < tiles)
    (q : ArePortsOf depth clients tiles items ports) (h : AreLanesOf depth clients (λ client. now client tile) lanes) where
  low : (i : ℕ) → i < length ports → i < clients
  low i li = let e = q.count in omega (arith, e, li)

  pub can_settle : CanSettle tile ports lanes
  can_settle = record {
    count = h.count ∙ sym q.count;
    each = λ i r d li.
        let row = q.at i r (low i li) in
        let lane = h.at i d (low i li) in
        record {
          column_in = (let e = row.count in omega (arith, e, lt));
          empty = λ p. (row.at tile p lt).empty;
          fits = λ p. (let a = fits depth (held (slice_index_or lanes i d)) (slice_index_or lanes i d) record { holds = refl; most = lane.most } in
              let b = (row.at tile p lt).most in omega (arith, a, b));
        };
  }

  module _ (ports' : List (Vec Port Global)) (s : AreSettled tile ports ports' lanes)
      (same : (client t : ℕ) → client < clients → t ≢ tile → now client t ≡ items client t) where
    inside : (i : ℕ) → i < clients → i < length ports
    inside i li = let e = q.count in omega (arith, e, li)

    within : (i : ℕ) → i < clients → i < length lanes
    within i li = let e = h.count in omega (arith, e, li)

    row_now : (i : ℕ) (r : Vec Port Global) → i < clients → IsPortRow depth tiles (now i) (slice_index_or ports' i r).items
    row_now i r li =
        let d = some_item lanes i (within i li) in
        let k = s.settled i r d (inside i li) in
        let row = q.at i r li in
        let lane = h.at i d li in
        record {
          count = k.changed.count ∙ row.count;
          at = at_one_or_other (λ t. (e : Port) → t < tiles → IsEmptyPort depth (now i t) (slice_index_or (slice_index_or ports' i r).items t e)) tile
              (λ e lt. subst (λ (x : Port). IsEmptyPort depth (now i tile) x) (sym (k.changed.is e)) record {
                empty = k.empty;
                count = k.count ∙ ap length lane.holds;
                most = k.depth ∙ ap (λ (x : Port). x.depth) (sym (k.changed.was k.port)) ∙ (row.at tile k.port lt).most;
              })
              (λ t ne e lt. subst (λ (x : Port). IsEmptyPort depth (now i t) x) (sym (k.changed.others t e ne))
              (subst (λ (xs : List Parcel). IsEmptyPort depth xs (slice_index_or (slice_index_or ports i r).items t e)) (sym (same i t li ne)) (row.at t e lt)));
        }

    pub settled_ports : ArePortsOf depth clients tiles now ports'
    settled_ports = record { count = s.count ∙ q.count; at = row_now }

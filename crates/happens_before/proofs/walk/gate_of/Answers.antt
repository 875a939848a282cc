use Rattle.std.proofs.Common.{◌≡◌, ◌+◌, ◌-◌, ℕ, suc, List, Option, Some, None, length, inl, inr, refl, sym, ap, ◌∙◌, subst, arith, slice_index}
use Rattle.std.proofs.lemmas.Bool.{cases_lt}
use Rattle.std.proofs.lemmas.List.{get_or_past}
use Rattle.order_model.proofs.RecordedByCounts.{zeros}
use Rattle.rc_base.specs.declared.sync.Name.{Name}
use Rattle.happens_before.specs.Timelines.{places_in, clock_of}
use Rattle.happens_before.proofs.GatesOfMembers.{IsGateBelow, gate_counts, gate_skips}
use Rattle.happens_before.proofs.walk.gate_of.Goals as goal
use Rattle.happens_before.proofs.walk.gate_of.Goals.{in-Some+then-behind-gt0, in-Some+else-behind-gt0, in-None}

kept : (clock : Name → ℕ → ℕ) (at : ℕ → Option ℕ) (k : ℕ) (gate new : List ℕ) → length gate ≡ 8 → IsGateBelow clock at k (slice_index gate) → new ≡ gate → ((i : ℕ) → at k ≡ Some (suc i) → ⊥)
    → record { slots : length new ≡ 8; gate : IsGateBelow clock at (k + 1) (slice_index new) }
kept clock at k gate new slots h e none = subst (λ xs. record { slots : length xs ≡ 8; gate : IsGateBelow clock at (k + 1) (slice_index xs) }) (sym e) (record { slots = slots; gate = gate_skips clock at k (slice_index gate) h none })

pub loop-client-init : goal.loop-client-init
loop-client-init c = record {
  slots = refl;
  gate = record { counts = λ k i lt. absurd (omega arith); counted = λ d p lt. absurd (omega (arith, zeros 8 d)) };
}

pub loop-client-preserved : goal.loop-client-preserved
loop-client-preserved c =
    let clock = clock_of c.args.timelines.now.clients.items in
    let at = places_in c.args.at.now in
    let k = c.loop-client.client in
    let inv = c.loop-client.invariant in
    elim c.match-at-client.branch [
      | in-Some+then-behind-gt0 w ↦
          let is : at k ≡ Some (suc (w.in-Some.behind - 1)) = w.in-Some.is ∙ ap (λ n. Some n) (let e : w.in-Some.behind ≡ suc (w.in-Some.behind - 1) = omega arith in e) in
          record {
            slots = ap length w.gate-is ∙ w.count.array_long;
            gate = gate_counts clock at k (w.in-Some.behind - 1) (slice_index c.loop-client.gate) (slice_index c.match-at-client.gate) inv.gate is (λ d. ap (λ xs. slice_index xs d) w.gate-is ∙ w.count.ensures d);
          }
      | in-Some+else-behind-gt0 w ↦ kept clock at k c.loop-client.gate c.match-at-client.gate inv.slots inv.gate w.gate-is
          (λ i e. let one : Some w.in-Some.behind ≡ Some (suc i) = sym w.in-Some.is ∙ e in let n : w.in-Some.behind ≡ suc i = cc in absurd (omega arith))
      | in-None w ↦ kept clock at k c.loop-client.gate c.match-at-client.gate inv.slots inv.gate w.gate-is
          (λ i e. let one : None ≡ Some (suc i) = sym w.in-None.is ∙ e in absurd cc)
    ]

pub returns : goal.returns
returns c = record {
  counts = λ k i is. c.loop-client.invariant.gate.counts k i (elim (cases_lt k 8) [
    | inl lt ↦ omega arith
    | inr ge ↦ absurd (let none : None ≡ Some (suc i) = sym (get_or_past c.args.at.now k None (omega arith)) ∙ is in cc)
  ]) is;
  counted = c.loop-client.invariant.gate.counted;
}

-- A gate counts the names before the members' operations, one member after the other.
use Rattle.std.proofs.Common.{◌≡◌, ℕ, suc, ◌+◌, ◌<◌, ◌≤◌, ◌≢◌, ◌==◌, nat_le, max, cond, List, [], length, Option, Some, None, inl, inr, refl, sym, ap, ◌∙◌, subst, arith, eq-eqb, ne_eqb}
use Rattle.std.specs.Prelude.{slice_index, slice_index_or, option_map}
use Rattle.std.specs.Option.{option_map_or}
use Rattle.std.proofs.lemmas.Bool.{cases_lt}
use Rattle.rc_base.specs.declared.sync.Name.{Name}
use Rattle.happens_before.specs.Clocks.{AtMost, up_to, raised, only}
use Rattle.happens_before.specs.Timelines.{behind, before_at, clock_of, AreChanges, AreOrdered}
use Rattle.happens_before.specs.declared.timelines.Change.{Change}

-- the gate of the members below a client
pub record IsGateBelow (clock : Name → ℕ → ℕ) (at : ℕ → Option ℕ) (end : ℕ) (gate : ℕ → ℕ) : Type 0 where
  pub counts : (c i : ℕ) → c < end → at c ≡ Some (suc i) → AtMost (up_to clock record { client = c; place = i }) gate
  pub counted : (d p : ℕ) → p < gate d → (c : ℕ) × (i : ℕ) × (at c ≡ Some (suc i)) × (p < up_to clock record { client = c; place = i } d)

pub gate_counts : (clock : Name → ℕ → ℕ) (at : ℕ → Option ℕ) (end i : ℕ) (gate new : ℕ → ℕ) → IsGateBelow clock at end gate → at end ≡ Some (suc i)
    → ((d : ℕ) → new d ≡ max (gate d) (up_to clock record { client = end; place = i } d)) → IsGateBelow clock at (end + 1) new
gate_counts clock at end i gate new h e up = record {
  counts = λ c j lt f d. elim (cases_lt c end) [
    | inl below ↦ omega (arith, h.counts c j below f d, up d)
    | inr ge ↦
        let same : end ≡ c = omega arith in
        let one : Some (suc i) ≡ Some (suc j) = sym e ∙ ap at same ∙ f in
        let n : i ≡ j = cc in
        omega (arith, up d, ap (λ k. up_to clock record { client = k; place = i } d) same, ap (λ k. up_to clock record { client = c; place = k } d) n)
  ];
  counted = λ d p lt. elim (cases_lt p (gate d)) [ inl was ↦ h.counted d p was | inr ge ↦ (end, i, e, omega (arith, up d, lt)) ];
}

-- a client without names before an operation adds none
pub gate_skips : (clock : Name → ℕ → ℕ) (at : ℕ → Option ℕ) (end : ℕ) (gate : ℕ → ℕ) → IsGateBelow clock at end gate → ((i : ℕ) → at end ≡ Some (suc i) → ⊥) → IsGateBelow clock at (end + 1) gate
gate_skips clock at end gate h none = record {
  counts = λ c j lt f d. elim (cases_lt c end) [
    | inl below ↦ h.counts c j below f d
    | inr ge ↦ absurd (let same : end ≡ c = omega arith in none j (ap at same ∙ f))
  ];
  counted = h.counted;
}

-- ---- members' names are raised

raised_by : ℕ → ℕ → ℕ → Option ℕ → ℕ
raised_by place v x o = option_map_or (λ q. cond (nat_le q place) (max x v) x) o x

pub raised_one : (clock was : Name → ℕ → ℕ) (at : ℕ → Option ℕ) (c p : ℕ) (gate : ℕ → ℕ) (n : Name) (d : ℕ) → at c ≡ Some p → n.client ≡ c → clock n d ≡ was n d
    → raised clock (only c (p + 1)) gate n d ≡ raised was (behind at) gate n d
unfolding raised_by
raised_one clock was at c p gate n d e f same =
    let here : only c (p + 1) n.client ≡ Some (p + 1) = rw (eq-eqb n.client c f) refl in
    let there : behind at n.client ≡ Some (p + 1) = ap (option_map (λ j. j + 1)) (ap at f ∙ e) in
    ap (λ x. raised_by n.place (gate d) x (only c (p + 1) n.client)) same ∙ ap (raised_by n.place (gate d) (was n d)) (here ∙ sym there)

pub raised_not : (clock : Name → ℕ → ℕ) (from : ℕ → Option ℕ) (gate : ℕ → ℕ) (n : Name) (d : ℕ) → from n.client ≡ None → raised clock from gate n d ≡ clock n d
unfolding raised_by
raised_not clock from gate n d e = ap (raised_by n.place (gate d) (clock n d)) e

pub clock_same : (lists other : List (List Change)) (n : Name) (d : ℕ) → slice_index_or lists n.client [] ≡ slice_index_or other n.client [] → clock_of lists n d ≡ clock_of other n d
clock_same lists other n d e = ap (λ xs. max (slice_index (before_at xs n.place) d) (cond (d == n.client) n.place 0)) e

-- the members below a client are raised
pub record IsRaisedBelow (old new : List (List Change)) (at : ℕ → Option ℕ) (end : ℕ) (gate : ℕ → ℕ) : Type 0 where
  pub clients : length new ≡ 8
  pub moved : (c p : ℕ) → c < end → at c ≡ Some p → AreChanges 0 (slice_index_or new c []) (p + 1)
  pub others : (c : ℕ) → at c ≡ None → slice_index_or new c [] ≡ slice_index_or old c []
  pub left : (c : ℕ) → end ≤ c → slice_index_or new c [] ≡ slice_index_or old c []
  pub clock : (n : Name) (d : ℕ) → n.client < end → clock_of new n d ≡ raised (clock_of old) (behind at) gate n d

pub raise_more : (old lists new : List (List Change)) (at : ℕ → Option ℕ) (k p : ℕ) (gate : ℕ → ℕ) → IsRaisedBelow old lists at k gate → at k ≡ Some p
    → ((n : Name) (d : ℕ) → clock_of new n d ≡ raised (clock_of lists) (only k (p + 1)) gate n d) → AreChanges 0 (slice_index_or new k []) (p + 1)
    → ((c : ℕ) → c ≢ k → slice_index_or new c [] ≡ slice_index_or lists c []) → length new ≡ 8 → IsRaisedBelow old new at (k + 1) gate
raise_more old lists new at k p gate h e clock changes others count = record {
  clients = count;
  moved = λ c q lt f. elim (cases_lt c k) [
    | inl below ↦ let ne : c ≢ k = omega arith in subst (λ xs. AreChanges 0 xs (q + 1)) (sym (others c ne)) (h.moved c q below f)
    | inr ge ↦
        let same : k ≡ c = omega arith in
        let one : Some p ≡ Some q = sym e ∙ ap at same ∙ f in
        let n : p ≡ q = cc in
        subst (λ j. AreChanges 0 (slice_index_or new j []) (q + 1)) same (subst (λ j. AreChanges 0 (slice_index_or new k []) (j + 1)) n changes)
  ];
  others = λ c f. let ne : c ≢ k = λ same. (let one : None ≡ Some p = sym f ∙ ap at same ∙ e in absurd cc) in others c ne ∙ h.others c f;
  left = λ c le. let ne : c ≢ k = omega arith in others c ne ∙ h.left c (omega arith);
  clock = λ n d lt. clock n d ∙ elim (cases_lt n.client k) [
    | inl below ↦
        let ne : n.client ≢ k = omega arith in
        let none : only k (p + 1) n.client ≡ None = rw (ne_eqb n.client k ne) refl in
        raised_not (clock_of lists) (only k (p + 1)) gate n d none ∙ h.clock n d below
    | inr ge ↦ let same : n.client ≡ k = omega arith in raised_one (clock_of lists) (clock_of old) at k p gate n d e same (clock_same lists old n d (h.left n.client (omega arith)))
  ];
}

pub raise_skips : (old lists : List (List Change)) (at : ℕ → Option ℕ) (k : ℕ) (gate : ℕ → ℕ) → IsRaisedBelow old lists at k gate → at k ≡ None → IsRaisedBelow old lists at (k + 1) gate
raise_skips old lists at k gate h e = record {
  clients = h.clients;
  moved = λ c q lt f. elim (cases_lt c k) [
    | inl below ↦ h.moved c q below f
    | inr ge ↦ let same : k ≡ c = omega arith in let one : None ≡ Some q = sym e ∙ ap at same ∙ f in absurd cc
  ];
  others = h.others;
  left = λ c le. h.left c (omega arith);
  clock = λ n d lt. elim (cases_lt n.client k) [
    | inl below ↦ h.clock n d below
    | inr ge ↦
        let same : n.client ≡ k = omega arith in
        let none : behind at n.client ≡ None = ap (option_map (λ j. j + 1)) (ap at same ∙ e) in
        clock_same lists old n d (h.left n.client (omega arith)) ∙ sym (raised_not (clock_of old) (behind at) gate n d none)
  ];
}

pub raised_ordered : (old lists : List (List Change)) (at : ℕ → Option ℕ) (k : ℕ) (gate : ℕ → ℕ) → IsRaisedBelow old lists at k gate → AreOrdered old → AreOrdered lists
raised_ordered old lists at k gate h was = record { clients = h.clients; changes = λ c lt. go c lt (at c) refl }
  where
    go : (c : ℕ) → c < 8 → (o : Option ℕ) → at c ≡ o → (end : ℕ) × AreChanges 0 (slice_index_or lists c []) end
    go c lt None e = let w = was.changes c lt in (w.0, subst (λ xs. AreChanges 0 xs w.0) (sym (h.others c e)) w.1)
    go c lt (Some p) e = elim (cases_lt c k) [
      | inl below ↦ (p + 1, h.moved c p below e)
      | inr ge ↦ let w = was.changes c lt in (w.0, subst (λ xs. AreChanges 0 xs w.0) (sym (h.left c ge)) w.1)
    ]

-- A name marked in cells one after the other.
use Rattle.std.proofs.Common.{◌≡◌, ◌≢◌, ℕ, ◌+◌, ◌<◌, ◌≤◌, List, [], length, inl, inr, refl, sym, ap, ◌∙◌, arith}
use Rattle.std.proofs.lemmas.Bool.{cases_lt}
use Rattle.std.proofs.lemmas.List.{get_or-set_same, get_or-set_other}
use Rattle.std.proofs.Math.ListN.{length-set}
use Rattle.rc_base.specs.declared.sync.Name.{Name}
use Rattle.race_check.specs.Finds.{cell_at, mark, marked}
use Rattle.race_check.specs.Outlines.{AreMarked}
use Rattle.race_check.specs.declared.range.Range.{Range}

-- the cells of a range up to below one are marked
pub record AreMarkedTo (n : Name) (r : Range) (k : ℕ) (old new : List (List ℕ)) : Type 0 where
  pub size : length new ≡ length old
  pub from : r.from ≤ k
  pub done : (i : ℕ) → r.from ≤ i → i < k → cell_at new i ≡ marked n (cell_at old i)
  pub before : (i : ℕ) → i < r.from → cell_at new i ≡ cell_at old i
  pub left : (i : ℕ) → k ≤ i → cell_at new i ≡ cell_at old i

pub marked_first : (n : Name) (r : Range) (cells : List (List ℕ)) → AreMarkedTo n r r.from cells cells
marked_first n r cells = record { size = refl; from = omega arith; done = λ i lo lt. absurd (omega arith); before = λ i lt. refl; left = λ i le. refl }

pub marked_more : (n : Name) (r : Range) (k : ℕ) (old cells new : List (List ℕ)) → AreMarkedTo n r k old cells → k < length cells → new ≡ mark n cells k → AreMarkedTo n r (k + 1) old new
marked_more n r k old cells new h lt e = record {
  size = ap length e ∙ length-set cells k now ∙ h.size;
  from = omega (arith, h.from);
  done = λ i lo up. elim (cases_lt i k) [
    | inl below ↦ other i (omega arith) ∙ h.done i lo below
    | inr ge ↦
        let same : i ≡ k = omega arith in
        ap (λ j. cell_at new j) same ∙ ap (λ (cs : List (List ℕ)). cell_at cs k) e ∙ get_or-set_same cells k now [] lt
        ∙ ap (marked n) (h.left k (omega arith)) ∙ ap (λ j. marked n (cell_at old j)) (sym same)
  ];
  before = λ i low. other i (omega (arith, h.from)) ∙ h.before i low;
  left = λ i le. other i (omega arith) ∙ h.left i (omega arith);
}
  where
    now : List ℕ
    now = marked n (cell_at cells k)

    other : (i : ℕ) → i ≢ k → cell_at new i ≡ cell_at cells i
    other i ne = ap (λ (cs : List (List ℕ)). cell_at cs i) e ∙ get_or-set_other cells k i (marked n (cell_at cells k)) [] ne

pub marked_all : (n : Name) (r : Range) (k : ℕ) (old new : List (List ℕ)) → AreMarkedTo n r k old new → r.to ≤ k → AreMarked n r old new
marked_all n r k old new h le = record {
  size = h.size;
  inside = λ i among. h.done i among.0 (omega (arith, among.1));
  each = λ i. elim (cases_lt i r.from) [
    | inl low ↦ inr (h.before i low)
    | inr ge ↦ elim (cases_lt i k) [ inl lt ↦ inl (h.done i ge lt) | inr up ↦ inr (h.left i up) ]
  ];
}

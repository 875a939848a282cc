-- Cells that a name uses.
use Rattle.std.proofs.Common.{◌≡◌, ◌≢◌, ℕ, zero, suc, ◌+◌, ◌||◌, Bool, true, false, cond, List, [], ◌∷◌, refl, sym, ap, ◌∙◌}
use Rattle.std.specs.Prelude.{slice_index, slice_set}
use Rattle.std.proofs.lemmas.List.{get_or-set_other}
use Rattle.rc_base.specs.declared.sync.Name.{Name}
use Rattle.race_check.specs.Finds.{IsFoundIn, marked}
use Rattle.race_check.specs.declared.found.Found.{Found}
use Rattle.race_check.specs.declared.verdict.Spot.{Spot}

-- ---- what a name finds doesn't go by its own client's uses

other_uses : (own v : ℕ) (cell : List ℕ) (c : ℕ) → c ≢ own → slice_index (slice_set cell own v) c ≡ slice_index cell c
other_uses own v cell c ne = get_or-set_other cell own c v 0 ne

pub found_before : (n : Name) (clock cell : List ℕ) (spot : Spot) (b : Bool) (x : Found) → IsFoundIn n.client clock (cond b (marked n cell) cell) spot x → IsFoundIn n.client clock cell spot x
found_before n clock cell spot true x h = record { other = h.other; last = sym (other_uses n.client (n.place + 1) cell x.client h.other) ∙ h.last; uncounted = h.uncounted; at = h.at }
found_before n clock cell spot false x h = h

pub found_behind : (n : Name) (clock cell : List ℕ) (spot : Spot) (b : Bool) (x : Found) → IsFoundIn n.client clock cell spot x → IsFoundIn n.client clock (cond b (marked n cell) cell) spot x
found_behind n clock cell spot true x h = record { other = h.other; last = other_uses n.client (n.place + 1) cell x.client h.other ∙ h.last; uncounted = h.uncounted; at = h.at }
found_behind n clock cell spot false x h = h

-- ---- a cell that is used twice

set_set : (xs : List ℕ) (i v : ℕ) → slice_set (slice_set xs i v) i v ≡ slice_set xs i v
set_set [] i v = refl
set_set (x ∷ xs) zero v = refl
set_set (x ∷ xs) (suc i) v = ap (λ ys. x ∷ ys) (set_set xs i v)

pub marked_then : (n : Name) (cell : List ℕ) (a b : Bool)
    → cond b (marked n (cond a (marked n cell) cell)) (cond a (marked n cell) cell) ≡ cond (a || b) (marked n cell) cell
marked_then n cell true true = set_set cell n.client (n.place + 1)
marked_then n cell true false = refl
marked_then n cell false true = refl
marked_then n cell false false = refl

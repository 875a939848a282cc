-- Counting one element more.
use Rattle.std.proofs.Common.{◌≡◌, ℕ, ◌+◌, Bool, [], ◌∷◌, ◌++◌, cond, ap, ◌∙◌, arith}
use Rattle.std.specs.Prelude.{count_by, not, slice_index_or}
use Rattle.std.specs.List.{range_with_len}
use Rattle.std.proofs.lemmas.List.Sums.{sum_by-append}
use Rattle.rc_base.specs.Contexts.Elements.{values_of, same_value, no_image}
use Rattle.rc_base.specs.declared.state.State.{State}
use Rattle.plain_lemmas.proofs.Ranges.{range_more}

abbrev pub differs : State → State → ℕ → Bool
differs a b e = not (same_value (slice_index_or (values_of a) e no_image) (slice_index_or (values_of b) e no_image))

from_zero : (k : ℕ) → 0 + k ≡ k
from_zero k = omega arith

pub count_more : (p : ℕ → Bool) (n : ℕ) → count_by p (range_with_len 0 (n + 1)) ≡ count_by p (range_with_len 0 n) + cond (p n) 1 0
count_more p n =
    ap (count_by p) (range_more 0 n ∙ ap (λ (k : ℕ). range_with_len 0 n ++ k ∷ []) (from_zero n)) ∙ sum_by-append (λ x. cond (p x) 1 0) (range_with_len 0 n) (n ∷ []) ∙ ap (λ (k : ℕ). count_by p (range_with_len 0 n) + k) (from_zero (cond (p n) 1 0))

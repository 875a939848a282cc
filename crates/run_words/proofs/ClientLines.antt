-- Lines by number, one number more.
use Rattle.std.proofs.Common.{◌≡◌, ℕ, ◌+◌, List, [], ◌∷◌, ◌++◌, ap, ◌∙◌, arith}
use Rattle.std.specs.List.{flat_map, range_with_len}
use Rattle.std.proofs.lemmas.Grind.{flat_map-append}
use Rattle.std.proofs.lemmas.List.{append-nil}
use Rattle.plain_lemmas.proofs.Ranges.{range_more}

-- the lines of one client more
pub lines_more : (f : ℕ → List ℕ) (n : ℕ) → flat_map f (range_with_len 0 (n + 1)) ≡ flat_map f (range_with_len 0 n) ++ f n
lines_more f n =
    let zero_on : 0 + n ≡ n = omega arith in
    ap (flat_map f) (range_more 0 n) ∙ flat_map-append f (range_with_len 0 n) ((0 + n) ∷ [])
    ∙ ap (λ (l : List ℕ). flat_map f (range_with_len 0 n) ++ l) (append-nil (f (0 + n)) ∙ ap f zero_on)

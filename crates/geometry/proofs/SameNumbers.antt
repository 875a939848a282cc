-- Two lists of numbers compared place by place.
use Rattle.std.proofs.Common.{◌≡◌, ℕ, ℤ, pos, zero, suc, ◌+◌, ◌<◌, ◌&&◌, Bool, true, false, List, [], ◌∷◌, length, take, get_or, refl, ap, ◌∙◌, arith, add-one}
use Rattle.std.specs.Ordering.{int_eq}
use Rattle.std.specs.Cmp.Lexicographic.{pointwise}

and_last : (b : Bool) → (b && true) ≡ (true && b)
and_last true = refl
and_last false = refl

and_in : (a b c : Bool) → (a && (b && c)) ≡ ((a && b) && c)
and_in true b c = refl
and_in false b c = refl

-- the first numbers of both, and one number more of each
same_more : (xs ys : List ℤ) (i : ℕ) → i < length xs → i < length ys
    → pointwise int_eq (take (suc i) xs) (take (suc i) ys) ≡ (pointwise int_eq (take i xs) (take i ys) && int_eq (get_or xs i (pos 0)) (get_or ys i (pos 0)))
same_more [] ys i low high = absurd (omega arith)
same_more (x ∷ xs) [] i low high = absurd (omega arith)
same_more (x ∷ xs) (y ∷ ys) zero low high = and_last (int_eq x y)
same_more (x ∷ xs) (y ∷ ys) (suc i) low high =
    ap (λ (b : Bool). int_eq x y && b) (same_more xs ys i (omega arith) (omega arith))
    ∙ and_in (int_eq x y) (pointwise int_eq (take i xs) (take i ys)) (int_eq (get_or xs i (pos 0)) (get_or ys i (pos 0)))

pub same_next : (xs ys : List ℤ) (i : ℕ) → i < length xs → i < length ys
    → pointwise int_eq (take (i + 1) xs) (take (i + 1) ys) ≡ (pointwise int_eq (take i xs) (take i ys) && int_eq (get_or xs i (pos 0)) (get_or ys i (pos 0)))
same_next xs ys i low high = (λ j. pointwise int_eq (take (add-one i j) xs) (take (add-one i j) ys)) ∙ same_more xs ys i low high

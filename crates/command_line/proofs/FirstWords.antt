-- The words at the front.
use Rattle.std.proofs.lemmas.Bool.{eqb-true}
use Rattle.std.specs.Prelude.{◌==◌}
use Rattle.std.proofs.Common.{◌≡◌, ◌-◌, ◌≤◌, true, refl, List, [], ◌∷◌, length, map, get_or, take, drop, sym, ap₂, arith}
use Rattle.std.proofs.lemmas.List.{take_all}

pub front : {A B : Type 0} (f : A → B) (xs : List A) (x : A) → 1 ≤ length xs → x ≡ get_or xs 0 x → map f xs ≡ f x ∷ map f (take (length xs - 1) (drop 1 xs))
front f [] x some is = absurd (omega arith)
front f (y ∷ ys) x some is = ap₂ (λ u us. f u ∷ map f us) (sym is) (sym (take_all (length (y ∷ ys) - 1) ys (omega arith)))

pub no_items : {A B : Type 0} (f : A → B) (xs : List A) → (length xs == 0) ≡ true → map f xs ≡ []
no_items f [] e = refl
no_items f (x ∷ xs) e = let none : length (x ∷ xs) ≡ 0 = eqb-true (length (x ∷ xs)) 0 e in absurd (omega arith)

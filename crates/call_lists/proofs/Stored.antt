-- The first commands of an expansion, as more are given.
use Rattle.std.proofs.Common.{◌≡◌, ℕ, zero, suc, ◌≤◌, ◌<◌, ◌^◌, List, [], ◌∷◌, ◌++◌, length, take, refl, ap, sym, ◌∙◌, arith}
use Rattle.std.proofs.lemmas.List.{append-nil, take_all, take_at, length-take}
use Rattle.rc_base.specs.declared.command.Command.{Command}
use Rattle.call_lists.specs.Expansion.{stored}

-- fewer are stored as they are
pub stored_short : (xs : List Command) → length xs ≤ 1048577 → stored xs ≡ xs
unfolding stored
stored_short xs short = take_all 1048577 xs short

-- where all places are taken, nothing more is stored
pub stored_full : (xs ys : List Command) → length xs ≡ 1048577 → stored (xs ++ ys) ≡ xs
unfolding stored
stored_full xs ys full = take_at xs ys 1048577 full

take_again : (n : ℕ) (xs ys : List Command) → take n (take n xs ++ ys) ≡ take n (xs ++ ys)
take_again zero xs ys = refl
take_again (suc n) [] ys = refl
take_again (suc n) (x ∷ xs) ys = ap (λ zs. x ∷ zs) (take_again n xs ys)

-- what is stored is enough to know what is stored with more
pub stored_more : (xs ys : List Command) → stored (stored xs ++ ys) ≡ stored (xs ++ ys)
unfolding stored
stored_more xs ys = take_again 1048577 xs ys

-- no command more
pub stored_none : (xs ys : List Command) → length xs ≤ 1048577 → ys ≡ [] → xs ≡ stored (xs ++ ys)
stored_none xs ys short none = sym (ap (λ zs. stored (xs ++ zs)) none ∙ ap stored (append-nil xs) ∙ stored_short xs short)

-- what is stored has places of 32 bits
pub stored_few : (xs : List Command) → length (stored xs) < 2 ^ 32
unfolding stored
stored_few xs = omega (arith, length-take 1048577 xs)

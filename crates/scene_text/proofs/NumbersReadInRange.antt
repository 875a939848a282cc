-- Numbers in their ranges.
use Rattle.std.proofs.Common.{◌≡◌, ℕ, true, List, [], ◌∷◌, refl, subst, ℤ, Option, Some, None}
use Rattle.std.specs.Option.{option_and_then}
use Rattle.std.proofs.lemmas.Option.{cond_some}
use Rattle.rc_base.specs.declared.command.NumberRange.{NumberRange}
use Rattle.rc_base.specs.Formats.Commands.{is_in_range}
use Rattle.scene_text.specs.Text.Read.{if_in, spelled_number, reads_as, with_first, numbers_of}
use Rattle.command_table.specs.Ranges.{AreIn}

read_in : (r : NumberRange) (o : Option ℤ) (z : ℤ) → option_and_then (if_in r) o ≡ Some z → is_in_range r z ≡ true
read_in r None z h = absurd (cc)
read_in r (Some y) z h = let e = cond_some (is_in_range r y) y z h in subst (λ x. is_in_range r x ≡ true) e.1 e.0

first_in : (r : NumberRange) (rs : List NumberRange) (o : Option ℤ) (p : Option (List ℤ)) (zs : List ℤ) → with_first o p ≡ Some zs
    → ((z : ℤ) → o ≡ Some z → is_in_range r z ≡ true) → ((ys : List ℤ) → p ≡ Some ys → AreIn rs ys) → AreIn (r ∷ rs) zs
first_in r rs None p zs h one rest = absurd (cc)
first_in r rs (Some z) None zs h one rest = absurd (cc)
first_in r rs (Some z) (Some ys) zs h one rest = let e : z ∷ ys ≡ zs = cc in subst (AreIn (r ∷ rs)) e (one z refl, rest ys refl)

-- numbers that are read lie in their ranges
pub numbers_in : (rs : List NumberRange) (ws : List (List ℕ)) (zs : List ℤ) → numbers_of rs ws ≡ Some zs → AreIn rs zs
numbers_in [] [] zs h = let e : [] ≡ zs = cc in subst (AreIn []) e tt
numbers_in [] (w ∷ ws) zs h = absurd (cc)
numbers_in (r ∷ rs) [] zs h = absurd (cc)
numbers_in (r ∷ rs) (w ∷ ws) zs h = first_in r rs (reads_as r w) (numbers_of rs ws) zs h (λ z e. read_in r (spelled_number w) z e) (λ ys e. numbers_in rs ws ys e)

-- Fronts of lists, and lists whose last elements are told by a test.
use Rattle.std.proofs.Common.{◌≡◌, Bool, true, false, List, [], ◌∷◌, ◌++◌, refl, sym, ap, ◌∙◌, append_assoc, append-nil, true≢false}
use Rattle.std.specs.List.{AllByRecursion}
use Rattle.rc_base.specs.Lists.{IsFront}

pub longer_front : {A : Type 0} (xs ys zs more : List A) → IsFront xs ys → zs ≡ ys ++ more → IsFront xs zs
longer_front xs ys zs more h e = (h.0 ++ more, e ∙ ap (λ vs. vs ++ more) h.1 ∙ append_assoc xs h.0 more)

pub front_of_front : {A : Type 0} (xs ys zs : List A) → IsFront xs ys → IsFront ys zs → IsFront xs zs
front_of_front xs ys zs h k = longer_front xs ys zs k.0 h k.1

pub all_of_it : {A : Type 0} (xs : List A) → IsFront xs xs
all_of_it xs = ([], sym (append-nil xs))

pub nothing_yet : {A : Type 0} (xs ys : List A) → xs ≡ [] → IsFront xs ys
nothing_yet xs ys e = (ys, sym (ap (λ zs. zs ++ ys) e))

-- a front without last elements is one of those that come before them
pub before_last : {A : Type 0} (is_last : A → Bool) (xs ks es : List A) → IsFront xs (ks ++ es) → AllByRecursion (λ x. is_last x ≡ false) xs
    → AllByRecursion (λ x. is_last x ≡ true) es → IsFront xs ks
before_last is_last [] ks es h unended ends = (ks, refl)
before_last is_last (x ∷ xs) [] [] h unended ends = absurd (let e = h.1 in cc)
before_last is_last (x ∷ xs) [] (e ∷ es) h unended ends =
    let same : e ≡ x = (let z = h.1 in cc) in
    absurd (true≢false (sym ends.0 ∙ ap is_last same ∙ unended.0))
before_last is_last (x ∷ xs) (k ∷ ks) es h unended ends =
    let same : k ≡ x = (let z = h.1 in cc) in
    let rest : ks ++ es ≡ xs ++ h.0 = (let z = h.1 in cc) in
    let f = before_last is_last xs ks es (h.0, rest) unended.1 ends in
    (f.0, ap (λ v. v ∷ ks) same ∙ ap (λ vs. x ∷ vs) f.1)

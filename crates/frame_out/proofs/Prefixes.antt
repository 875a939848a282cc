-- Fronts of texts that stand one after the other.
use Rattle.std.proofs.Common.{◌≡◌, ℕ, ◌≤◌, List, ◌++◌, length, take, drop, Ok, Err, sym, ap, ◌∙◌, take-append-drop, length-append, arith}
use Rattle.std.specs.Prelude.{OnErr}
use Rattle.std.specs.declared.result.Result.{Result}
use Rattle.std.specs.List.{flat_map}
use Rattle.std.proofs.lemmas.Grind.{flat_map-append}
use Rattle.rc_base.specs.declared.image.Image.{Image}

-- what holds in any case holds where there is an error
pub on_err : {T E : Type 0} (r : Result T E) {P : Type 0} → P → OnErr r P
on_err (Ok x) h = tt
on_err (Err e) h = h

module _ (f : Image → List ℕ) (xs : List Image) (i : ℕ) where
  abbrev pub before : List ℕ
  before = flat_map f (take i xs)

  pub whole : flat_map f xs ≡ before ++ flat_map f (drop i xs)
  whole = ap (flat_map f) (sym (take-append-drop i xs)) ∙ flat_map-append f (take i xs) (drop i xs)

  pub before_most : length before ≤ length (flat_map f xs)
  before_most = let e = ap length whole ∙ length-append before (flat_map f (drop i xs)) in omega (arith, e)

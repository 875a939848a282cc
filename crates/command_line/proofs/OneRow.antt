-- A table of different words has at most one row for a word.
use Rattle.std.proofs.Common.{◌≡◌, ◌∙◌, sym, ap, ℕ, List, [], ◌∷◌, Option, None, Some, if◌then◌else◌}
use Rattle.std.specs.Str.{bytes_eq}

module _ {A : Type 0} (word : A → List ℕ) where
  -- the first row of the word
  abbrev pub row_in : List A → List ℕ → Option A
  row_in [] w = None
  row_in (a ∷ rows) w = if bytes_eq w (word a) then Some a else row_in rows w

  -- Rows that are found by their own words are one where these are one word. In a table of different words each row is found so, which is seen by
  -- looking, mostly by refl.
  pub one_row : (rows : List A) (v w : List ℕ) (a b : A) → row_in rows v ≡ Some a → row_in rows w ≡ Some b → v ≡ w → a ≡ b
  one_row rows v w a b first second same = let found : Some a ≡ Some b = sym first ∙ ap (row_in rows) same ∙ second in cc

  pub no_row : (rows : List A) (v w : List ℕ) (a : A) → row_in rows v ≡ Some a → row_in rows w ≡ None → v ≡ w → ⊥
  no_row rows v w a found none same = let both : Some a ≡ None = sym found ∙ ap (row_in rows) same ∙ none in absurd cc

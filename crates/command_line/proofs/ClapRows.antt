-- The rows of a parse, where one row is added.
use Rattle.std.specs.Prelude.{◌≡◌, Bool, true, false, List, [], ◌∷◌, ◌++◌, Option, Some, None, ◌||◌, if◌then◌else◌, find}
use Rattle.std.proofs.Common.{refl, ap, ◌∙◌, append-nil}
use Rattle.std.specs.Str.{bytes_eq}
use Rattle.clap.specs.Walk.{Row, Rule, Text, at_row, more_values, with_values, without, has_row, reading_by}
use Rattle.clap.specs.declared.parser.matches.ValueSource.{ValueSource}
use Rattle.clap.specs.declared.parser.matches.ValueSource.TheVariants.{CommandLine}

-- the row of a use
abbrev pub new_row : ValueSource → Rule → Text → Row
new_row source a v = record { id = a.id; values = v ∷ []; count = None; source = Some source; reading = reading_by a }

pub fresh : (id : Text) (f : Row → List Row) (missing rows : List Row) → has_row id rows ≡ false → at_row id f missing rows ≡ rows ++ missing
fresh id f missing [] h = refl
fresh id f missing (r ∷ rs) h = go (bytes_eq r.id id) h (fresh id f missing rs)
  where
    go : (b : Bool) → (b || has_row id rs) ≡ false → (has_row id rs ≡ false → at_row id f missing rs ≡ rs ++ missing)
        → (if b then f r ++ rs else r ∷ at_row id f missing rs) ≡ r ∷ (rs ++ missing)
    go true p ih = absurd cc
    go false p ih = ap (λ xs. r ∷ xs) (ih p)

pub has_more : (id : Text) (rows : List Row) (r : Row) → has_row id (rows ++ r ∷ []) ≡ (has_row id rows || bytes_eq r.id id)
has_more id [] r = go (bytes_eq r.id id)
  where
    go : (b : Bool) → (b || false) ≡ (false || b)
    go true = refl
    go false = refl
has_more id (x ∷ xs) r = go (bytes_eq x.id id) (has_more id xs r)
  where
    go : (b : Bool) → has_row id (xs ++ r ∷ []) ≡ (has_row id xs || bytes_eq r.id id)
        → (b || has_row id (xs ++ r ∷ [])) ≡ ((b || has_row id xs) || bytes_eq r.id id)
    go true ih = refl
    go false ih = ih

-- the first row of an id
abbrev pub row_in : Text → List Row → Option Row
row_in id rows = find (λ r. bytes_eq r.id id) rows

-- another row changes no first row, and a fresh one is its own
pub row_other : (id : Text) (rows : List Row) (r : Row) → bytes_eq r.id id ≡ false → row_in id (rows ++ r ∷ []) ≡ row_in id rows
row_other id [] r h = rw h refl
row_other id (x ∷ xs) r h = go (bytes_eq x.id id) (row_other id xs r h)
  where
    go : (b : Bool) → row_in id (xs ++ r ∷ []) ≡ row_in id xs → (if b then Some x else row_in id (xs ++ r ∷ [])) ≡ (if b then Some x else row_in id xs)
    go true ih = refl
    go false ih = ih

pub row_own : (id : Text) (rows : List Row) (r : Row) → bytes_eq r.id id ≡ true → has_row id rows ≡ false → row_in id (rows ++ r ∷ []) ≡ Some r
row_own id [] r h n = rw h refl
row_own id (x ∷ xs) r h n = go (bytes_eq x.id id) n (row_own id xs r h)
  where
    go : (b : Bool) → (b || has_row id xs) ≡ false → (has_row id xs ≡ false → row_in id (xs ++ r ∷ []) ≡ Some r)
        → (if b then Some x else row_in id (xs ++ r ∷ [])) ≡ Some r
    go true p ih = absurd cc
    go false p ih = ih p

pub with_more : (a : Rule) (v : Text) (rows : List Row) → has_row a.id rows ≡ false
    → with_values a.id (reading_by a) CommandLine (v ∷ []) (without a.id rows) ≡ rows ++ new_row CommandLine a v ∷ []
with_more a v rows h =
    let gone : without a.id rows ≡ rows = fresh a.id (λ _. []) [] rows h ∙ append-nil rows in
    rw gone (fresh a.id (more_values CommandLine (v ∷ [])) (new_row CommandLine a v ∷ []) rows h)

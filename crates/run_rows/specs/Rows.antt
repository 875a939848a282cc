-- The rows of a table.
use Rattle.std.specs.Prelude.{ℕ, List, [], ◌∷◌}
use Rattle.run_rows.specs.declared.table.Form.{Form}
use Rattle.run_rows.specs.declared.table.Form.TheVariants.{Row}
use Rattle.run_rows.specs.declared.table.Line.{Line}

-- what a line says behind its word, where it begins a row, and then these names
abbrev pub named_before : Form → List ℕ → List (List ℕ) → List (List ℕ)
named_before Row name names = name ∷ names
named_before form name names = names

-- the names of a table's rows, in their order
abbrev pub names_in : List Line → List (List ℕ)
names_in [] = []
names_in (line ∷ lines) = named_before line.form line.rest.now (names_in lines)

use Rattle.std.proofs.Common.{◌≡◌, ◌++◌, map, drop}
use Rattle.run_rows.specs.Rows.{names_in}
use Rattle.run_rows.proofs.row.rows_of.Given as goal

-- the names so far and those in what is left are those of the whole table
abbrev pub invariant-loop-i : goal.invariant-loop-i
invariant-loop-i l = map (λ row. row.name.now) l.rows.items ++ names_in (drop l.i l.lines) ≡ names_in l.lines

use Rattle.std.proofs.Common.{rules, ◌≡◌, ℕ, ◌++◌, append_assoc}
use Rattle.std.specs.Prelude.{codes}
use Rattle.std.specs.Fmt.{decimal}
use Rattle.run_words.specs.Lines.{filter_line}
use Rattle.run_words.proofs.report.filter_line.Goals as goal

-- the line piece by piece
pieces : (filter count : ℕ) → codes "filter " ++ (decimal filter ++ (codes " count " ++ (decimal count ++ codes "\n"))) ≡ filter_line (filter, count)
pieces filter count = simp append_assoc

pub returns : goal.returns
returns c = rw (← pieces c.args.filter c.args.count) (search rules)

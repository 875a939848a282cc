use Rattle.std.proofs.Common.{rules, ◌≡◌, ℕ, ◌++◌, append_assoc}
use Rattle.std.specs.Prelude.{codes}
use Rattle.std.specs.Fmt.{decimal}
use Rattle.rc_base.specs.declared.sync.Name.{Name}
use Rattle.order_model.specs.Report.{order_line}
use Rattle.run_words.proofs.report.order_line.Goals as goal

-- the line piece by piece
pieces : (tile : ℕ) (name : Name)
    → codes "order " ++ (decimal tile ++ (codes " " ++ (decimal name.client ++ (codes " " ++ (decimal name.place ++ codes "\n"))))) ≡ order_line tile name
pieces tile name = simp append_assoc

pub returns : goal.returns
returns c = rw (← pieces c.args.tile c.args.name.now) (search rules)

use Rattle.std.proofs.Common.{rules, ◌≡◌, ℕ, List, ◌++◌, append_assoc}
use Rattle.std.specs.Prelude.{codes}
use Rattle.std.specs.Fmt.{decimal}
use Rattle.order_model.specs.Report.{fault_name, refused_line}
use Rattle.rc_base.specs.declared.state.Fault.{Fault}
use Rattle.run_words.proofs.report.refused_line.Goals as goal

-- the line piece by piece
pieces : (word : List ℕ) (client : ℕ) (refused : ℕ × Fault)
    → codes "client " ++ (decimal client ++ (word ++ (fault_name refused.1 ++ (codes " at " ++ (decimal refused.0 ++ codes "\n"))))) ≡ refused_line word client refused
pieces word client refused = simp append_assoc

pub returns : goal.returns
returns c = rw (← pieces c.args.word.now c.args.client c.args.refused.now) (search rules)

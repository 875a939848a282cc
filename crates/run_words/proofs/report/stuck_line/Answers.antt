use Rattle.std.proofs.Common.{rules, ◌≡◌, ℕ, ◌++◌, append_assoc}
use Rattle.std.specs.Prelude.{codes}
use Rattle.std.specs.Fmt.{decimal}
use Rattle.rc_base.specs.declared.sync.WaitAt.{WaitAt}
use Rattle.order_model.specs.Report.{op_text, stuck_line}
use Rattle.run_words.proofs.report.stuck_line.Goals as goal

-- the line piece by piece
pieces : (client : ℕ) (w : WaitAt)
    → codes "stuck client " ++ (decimal client ++ (codes " at " ++ (decimal w.place ++ (codes " " ++ (op_text w.op ++ codes "\n"))))) ≡ stuck_line client w
pieces client w = simp append_assoc

pub returns : goal.returns
returns c = rw (← pieces c.args.client c.args.wait) (search rules)

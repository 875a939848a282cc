use Rattle.std.proofs.Common.{rules, ◌≡◌, List, ◌++◌, length, append_assoc}
use Rattle.std.specs.Prelude.{codes}
use Rattle.std.specs.Fmt.{decimal}
use Rattle.order_model.specs.Report.{frame_count, count_lines}
use Rattle.rc_base.specs.declared.sync.Entry.{Entry}
use Rattle.run_words.proofs.report.count_lines.Goals as goal

-- the lines piece by piece
pieces : (journal : List Entry) → codes "journal " ++ (decimal (length journal) ++ (codes "\nframes " ++ (decimal (frame_count journal) ++ codes "\n"))) ≡ count_lines journal
pieces journal = simp append_assoc

pub returns : goal.returns
returns c = rw (← pieces c.args.journal.now) (search rules)

use Rattle.std.proofs.Common.{[], ◌∷◌, ◌++◌, arith, sym, ap, ◌∙◌, length-append}
use Rattle.call_lists.proofs.Stored.{stored_short, stored_full}
use Rattle.call_lists.proofs.given.Given.give.Goals as goal
use Rattle.call_lists.proofs.given.Given.give.Goals.{then-len-lt-MOST_GIVEN+in_ok-copy_of+in_ok-push, else-len-lt-MOST_GIVEN}

pub returns-clause-given : goal.returns-clause-given
returns-clause-given c =
    elim c.if-len-lt-MOST_GIVEN.branch [
      | then-len-lt-MOST_GIVEN+in_ok-copy_of+in_ok-push w ↦
          let short = stored_short (c.args.self.now.commands ++ c.args.command.now ∷ []) (omega (arith, length-append c.args.self.now.commands (c.args.command.now ∷ []), c.len.ensures, w.if-len-lt-MOST_GIVEN.true)) in
          let added = w.in_ok-push.ensures in
          let copied = w.in_ok-copy_of.ensures in
          rw w.self-is (added.items ∙ ap (λ y. c.args.self.now.commands ++ y ∷ []) copied ∙ sym short)
      | else-len-lt-MOST_GIVEN w ↦
          let full = stored_full c.args.self.now.commands (c.args.command.now ∷ []) (omega (arith, c.args.self.now.few, c.len.ensures, w.if-len-lt-MOST_GIVEN.false)) in
          rw w.self-is (sym full)
    ]

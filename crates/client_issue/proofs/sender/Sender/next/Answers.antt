use Rattle.std.proofs.Common.{arith, rules}
use Rattle.std.proofs.lemmas.Grind.{common_steps}
use Rattle.client_issue.proofs.Prepared.{next_item, on_err, err_map}
use Rattle.client_issue.proofs.sender.Sender.next.Goals as goal

pub returns-in_err-issue_next : goal.returns-in_err-issue_next
returns-in_err-issue_next c =
    let more = c.if-self-len.true in
    record {
      keeps = first_of (search rules, grind (arith, common_steps));
      given = first_of (search rules, grind (arith, common_steps));
      err = on_err c.from_residual.result _ (λ over. let all = (c.issuing.invariant.over over).issued in let same = c.len.ensures in omega (arith, more, all, same));
    }

pub returns : goal.returns
returns c = record {
  keeps = first_of (search rules, grind (arith, common_steps));
  given = next_item c.args.self.now c.issuing.self c.give.new.self c.give.result c.issuing.invariant.same c.issuing.invariant.left c.give.ensures.given;
  err = err_map c.give.result _ _ (λ none over. none (c.issuing.invariant.over over)) c.give.ensures.err;
}

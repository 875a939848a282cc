use Rattle.std.proofs.Common.{◌+◌, [], ◌++◌, length, sym, ap, ◌∙◌}
use Rattle.call_lists.specs.Expansion.{stored}
use Rattle.call_lists.proofs.CommandsMet.{passes_first, plain_one, costs_one}
use Rattle.call_lists.proofs.given.Given.meet_any.Goals as goal

pub returns-then-spent-gt-MOST_COST : goal.returns-then-spent-gt-MOST_COST
returns-then-spent-gt-MOST_COST c =
    passes_first c.args.self.now.spent _ c.args.command.now [] c.args.self.now.within (ap (λ n. c.args.self.now.spent + n) c.cost_of.ensures.cost) c.if-spent-gt-MOST_COST.true

pub returns : goal.returns
returns c =
    let ok = c.in_ok-give_plain.ensures in
    record {
      given = ok.given ∙ ap (λ zs. stored (c.args.self.now.commands ++ zs)) (sym (plain_one c.args.command.now));
      counted = ok.counted ∙ ap (λ zs. c.args.self.now.count + length zs) (sym (plain_one c.args.command.now));
      spent = ok.spent ∙ ap (λ n. c.args.self.now.spent + n) (c.cost_of.ensures.cost ∙ sym (costs_one c.args.command.now));
    }

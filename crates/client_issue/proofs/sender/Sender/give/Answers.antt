use Rattle.std.proofs.Common.{◌∙◌, ap, sym, subst, Some, rules}
use Rattle.std.specs.declared.option.Option.{Option}
use Rattle.client_issue.specs.Sequence.{IsSendingWith, left_with}
use Rattle.client_issue.specs.declared.pending.Pending.{Pending}
use Rattle.client_issue.proofs.Requesting.{with_pending, left_elsewhere}
use Rattle.client_issue.proofs.sender.Sender.give.Goals as goal

pub give_parcel-requires-clause-sending : goal.give_parcel-requires-clause-sending
give_parcel-requires-clause-sending c =
    let s = c.args.self.now in
    with_pending s (Some c.in-Some.pending) c.take.new.self
    (subst (λ (o : Option Pending). IsSendingWith s o) (sym c.take.ensures.value ∙ c.in-Some.is) c.requires.sending)

pub returns-in_ok-give_parcel-in-Some : goal.returns-in_ok-give_parcel-in-Some
returns-in_ok-give_parcel-in-Some c = record {
  keeps = search rules;
  given = record {
    sending = search rules;
    left =
        let s = c.args.self.now in
        ap (left_with s) (sym c.take.ensures.value ∙ c.in-Some.is) ∙ left_elsewhere s (Some c.in-Some.pending) c.take.new.self ∙ c.in_ok-give_parcel-in-Some.ensures.left;
    all = search rules;
    tile = search rules;
    looked = search rules;
    next = search rules;
  };
  err = search rules;
}

use Rattle.std.proofs.Common.{◌∙◌, ◌∷◌, ap, sym, rules}
use Rattle.std.specs.declared.option.Option.{Option}
use Rattle.rc_base.specs.Cluster.Sending.{ToManager, request_of}
use Rattle.rc_base.specs.declared.sync.WaitAt.{WaitAt}
use Rattle.client_issue.specs.Sequence.{left_of}
use Rattle.client_issue.proofs.Requesting.{request_left, over_of}
use Rattle.client_issue.proofs.sender.Sender.give_request.Goals as goal

pub returns-in_default-clause-given : goal.returns-in_default-clause-given
returns-in_default-clause-given c = record {
  sending = search rules;
  left = search rules;
  all =
      let s = c.args.self.now in
      let asks = sym c.take.ensures.value ∙ c.in_default.is in
      over_of (record s { request = c.take.new.self }) c.requires.none c.take.ensures.after (c.requires.over asks);
  tile = search rules;
  looked = search rules;
  next = search rules;
}

pub returns-clause-given : goal.returns-clause-given
returns-clause-given c = record {
  sending = search rules;
  left =
      let s = c.args.self.now in
      request_left s c.in-Some.wait c.requires.none (sym c.take.ensures.value ∙ c.in-Some.is)
      ∙ ap (λ (o : Option WaitAt). ToManager (request_of c.in-Some.wait) ∷ left_of (record s { request = o })) (sym c.take.ensures.after);
  all = search rules;
  tile = search rules;
  looked = search rules;
  next = search rules;
}

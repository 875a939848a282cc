use Rattle.std.proofs.Common.{◌≡◌, ◌∙◌, ◌+◌, ◌<◌, ℕ, false, Some, None, refl, ap, subst, sym, rules}
use Rattle.rc_base.specs.declared.state.Effect.TheVariants as eff
use Rattle.rc_base.specs.declared.state.State.{State}
use Rattle.client_issue.specs.Acts.{asks_of}
use Rattle.client_issue.specs.First.{IsFirst}
use Rattle.client_issue.specs.Sequence.{left_of, IsIssuing, IsSendingWith}
use Rattle.client_issue.specs.declared.pending.Pending.{Pending}
use Rattle.client_issue.specs.declared.sender.Sender.{Sender}
use Rattle.client_issue.proofs.BlockCommands.{IsEnded, ended, ended_left, ended_sending, unseen_left, unseen_sending}
use Rattle.client_issue.proofs.Requesting.{issuing_of}
use Rattle.client_issue.proofs.sender.Sender.issue_end.Goals.{After-first_of, in-Ok+in-Some+in-Some-self-3, in-Ok+in-Some+in-None-1, in-Ok+in-None-1, in-Err}
use Rattle.client_issue.proofs.sender.Sender.issue_end.Goals as goal

-- the block goes to a tile
seen : (c : After-first_of) (p : Pending) → IsFirst c.args.self.now.layout c.state.result.now c.args.self.now.issued (eff.Block c.in-Some.block) p
    → IsEnded c.args.self.now c.in-Some.block c.end.new.self (Some p)
seen c p first = record {
  law = c.streams_go_on_by_issue.ensures.next;
  sending = c.requires.next.sending;
  rests = c.requires.next.pending;
  asked = c.requires.next.request;
  more = c.requires.next.more;
  at = c.requires.command;
  context = c.in-Some.ensures.issued c.args.self.now.issued;
  effect = c.in-Some.ensures.effect;
  pending = subst (λ (y : State). IsFirst c.args.self.now.layout y c.args.self.now.issued (eff.Block c.in-Some.block) p) c.state.ensures first;
}

-- it goes to none
unseen : (c : After-first_of) → ((t : ℕ) → t < c.args.self.now.count → asks_of c.args.self.now.layout c.state.result.now (eff.Block c.in-Some.block) t ≡ false)
    → IsEnded c.args.self.now c.in-Some.block c.end.new.self None
unseen c none = record {
  law = c.streams_go_on_by_issue.ensures.next;
  sending = c.requires.next.sending;
  rests = c.requires.next.pending;
  asked = c.requires.next.request;
  more = c.requires.next.more;
  at = c.requires.command;
  context = c.in-Some.ensures.issued c.args.self.now.issued;
  effect = c.in-Some.ensures.effect;
  pending = λ t lt. ap (λ (y : State). asks_of c.args.self.now.layout y (eff.Block c.in-Some.block) t) (sym c.state.ensures) ∙ none t lt;
}

pub returns : goal.returns
returns c = record {
  keeps = record {
    same = search rules;
    issuing =
        let s = c.args.self.now in
        let at = (goal.at.returns c).After-first_of in
        let b = c.in-Some.block in
        let x = c.end.new.self in
        elim c.match-first_of.branch [
          | in-Ok+in-Some+in-Some-self-3 w ↦ subst (λ (t : Sender). IsIssuing (record t { issued = t.issued + 1 })) (sym w.self-is) (issuing_of (ended s x (Some w.in-Ok.pending)) _ (ended_sending s b x (Some w.in-Ok.pending) (seen at w.in-Ok.pending (w.in-Ok.ensures (eff.Block b) refl))))
          | in-Ok+in-Some+in-None-1 w ↦ subst (λ (t : Sender). IsIssuing (record t { issued = t.issued + 1 })) (sym w.self-is) (issuing_of (ended s x (Some w.in-Ok.pending)) _ (ended_sending s b x (Some w.in-Ok.pending) (seen at w.in-Ok.pending (w.in-Ok.ensures (eff.Block b) refl))))
          | in-Ok+in-None-1 w ↦ subst (λ (t : Sender). IsIssuing (record t { issued = t.issued + 1 })) (sym w.self-is) (issuing_of (ended s x (Some w.in-Ok.pending)) _ (ended_sending s b x (Some w.in-Ok.pending) (seen at w.in-Ok.pending (w.in-Ok.ensures (eff.Block b) refl))))
          | in-Err w ↦ subst (λ (t : Sender). IsIssuing (record t { issued = t.issued + 1 })) (sym (w.self-is ∙ w.take_back.ensures)) (issuing_of (record s { context = x; issued = s.issued + 1 }) _ (unseen_sending s b x (unseen at (w.in-Err.ensures (eff.Block b) refl))))
        ];
  };
  issued = record {
    sending =
        let s = c.args.self.now in
        let at = (goal.at.returns c).After-first_of in
        let b = c.in-Some.block in
        let x = c.end.new.self in
        elim c.match-first_of.branch [
          | in-Ok+in-Some+in-Some-self-3 w ↦ subst (λ (t : Sender). IsSendingWith (record t { issued = t.issued + 1 }) t.pending) (sym w.self-is) (ended_sending s b x (Some w.in-Ok.pending) (seen at w.in-Ok.pending (w.in-Ok.ensures (eff.Block b) refl)))
          | in-Ok+in-Some+in-None-1 w ↦ subst (λ (t : Sender). IsSendingWith (record t { issued = t.issued + 1 }) t.pending) (sym w.self-is) (ended_sending s b x (Some w.in-Ok.pending) (seen at w.in-Ok.pending (w.in-Ok.ensures (eff.Block b) refl)))
          | in-Ok+in-None-1 w ↦ subst (λ (t : Sender). IsSendingWith (record t { issued = t.issued + 1 }) t.pending) (sym w.self-is) (ended_sending s b x (Some w.in-Ok.pending) (seen at w.in-Ok.pending (w.in-Ok.ensures (eff.Block b) refl)))
          | in-Err w ↦ subst (λ (t : Sender). IsSendingWith (record t { issued = t.issued + 1 }) t.pending) (sym (w.self-is ∙ w.take_back.ensures)) (unseen_sending s b x (unseen at (w.in-Err.ensures (eff.Block b) refl)))
        ];
    left =
        let s = c.args.self.now in
        let at = (goal.at.returns c).After-first_of in
        let b = c.in-Some.block in
        let x = c.end.new.self in
        elim c.match-first_of.branch [
          | in-Ok+in-Some+in-Some-self-3 w ↦ ap (λ (t : Sender). left_of (record t { issued = t.issued + 1 })) w.self-is ∙ (ended_left s b x (Some w.in-Ok.pending) (seen at w.in-Ok.pending (w.in-Ok.ensures (eff.Block b) refl)))
          | in-Ok+in-Some+in-None-1 w ↦ ap (λ (t : Sender). left_of (record t { issued = t.issued + 1 })) w.self-is ∙ (ended_left s b x (Some w.in-Ok.pending) (seen at w.in-Ok.pending (w.in-Ok.ensures (eff.Block b) refl)))
          | in-Ok+in-None-1 w ↦ ap (λ (t : Sender). left_of (record t { issued = t.issued + 1 })) w.self-is ∙ (ended_left s b x (Some w.in-Ok.pending) (seen at w.in-Ok.pending (w.in-Ok.ensures (eff.Block b) refl)))
          | in-Err w ↦ ap (λ (t : Sender). left_of (record t { issued = t.issued + 1 })) (w.self-is ∙ w.take_back.ensures) ∙ (unseen_left s b x (unseen at (w.in-Err.ensures (eff.Block b) refl)))
        ];
    issued = search rules;
  };
}

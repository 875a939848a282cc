use Rattle.std.proofs.Common.{◌≡◌, ℕ, false, get_or, ◌∙◌, ◌+◌, ap, subst, sym, refl, ◌<◌, length, ◌++◌, rules}
use Rattle.std.specs.Prelude.{MatchOption, ◌||◌}
use Rattle.state_update.specs.Knowledge.{pending}
use Rattle.client_issue.specs.Issued.{is_refused, sets_element}
use Rattle.client_issue.proofs.Marking.{named}
use Rattle.std.proofs.Math.Logic.{∥∥₁_elim}
use Rattle.rc_base.specs.Formats.Commands.{IsCommand}
use Rattle.rc_base.specs.declared.command.Command.{Command}
use Rattle.std.specs.declared.option.Option.{Option}
use Rattle.std.specs.Option.{option_to_list}
use Rattle.rc_base.specs.declared.state.State.{State}
use Rattle.rc_base.specs.declared.sync.WaitAt.{WaitAt}
use Rattle.client_issue.specs.Acts.{asks_of}
use Rattle.client_issue.specs.First.{IsFirst}
use Rattle.client_issue.specs.Sequence.{scene_of, IsIssuing, IsSendingWith, left_of}
use Rattle.client_issue.specs.declared.pending.Pending.{Pending}
use Rattle.client_issue.specs.declared.sender.Sender.{Sender}
use Rattle.client_issue.proofs.Issuing.{IsIssued, HasTexels-prop, command_in, command_is, issued_sending, issued_left}
use Rattle.client_issue.proofs.Requesting.{issuing_of}
use Rattle.client_issue.proofs.sender.Sender.issue_any.Goals.{After-pending_of, in-Owned+in-TexImage-2, in-Owned+in-TexPart-2, in-Owned+in-SharedImage-2, in-Owned+in-Begin-2, in-Borrowed-2}
use Rattle.client_issue.proofs.sender.Sender.issue_any.Goals as goal

found_at : (s : Sender) (x y : Command) → x ≡ y → y ≡ get_or s.stream s.issued y → x ≡ get_or s.stream s.issued x
found_at s x y same at = same ∙ at ∙ ap (λ (d : Command). get_or s.stream s.issued d) (sym same)

pub issue-requires-clause-texels : goal.issue-requires-clause-texels
issue-requires-clause-texels c =
    let s = c.args.self.now in
    let x = c.deref-command.result.now in
    let less : s.issued < length s.stream = c.requires.more in
    let found : x ≡ get_or s.stream s.issued x = found_at s x _ c.deref-command.ensures c.at-stored.ensures in
    ∥∥₁_elim c.requires.sending.commands (HasTexels-prop x) (λ commands. c.commands_have_texels.ensures x (subst IsCommand (sym found) (command_in s.stream s.issued x commands less)))

pub note-requires : goal.note-requires
note-requires c accepted =
    named c.args.self.now.context c.deref-command.result.now (sym (ap is_refused c.in_ok-effect.ensures.effect) ∙ accepted)

facts : (c : After-pending_of) → IsIssued c.args.self.now c.deref-command.result.now c.issue.new.self c.in_ok-effect.effect c.pending_of.result c.add.new.ops c.note.new.tracker
facts c =
    let s = c.args.self.now in
    let x = c.deref-command.result.now in
    let effect = c.in_ok-effect.effect in
    record {
      law = c.streams_go_on_by_issue.ensures.next;
      sending = subst (λ (o : Option Pending). IsSendingWith s o) c.requires.pending c.requires.sending;
      more = c.requires.more;
      command = command_is (scene_of s) s.stream s.issued x refl c.requires.more (found_at s x _ c.deref-command.ensures c.at-stored.ensures);
      context = c.in_ok-effect.ensures.ok;
      effect_is = c.in_ok-effect.ensures.effect;
      pending =
          subst (λ (y : State). MatchOption c.pending_of.result ((t : ℕ) → t < s.count → asks_of s.layout y effect t ≡ false) (IsFirst s.layout y s.issued effect)) c.state.ensures c.pending_of.ensures;
      told = c.note.ensures.told;
      marked = λ tile e lt. c.note.ensures.marked tile e lt ∙ ap (λ (m : ℕ). sets_element c.deref-command.result.now m c.in_ok-effect.effect e || pending s.tracker tile e) c.matrix_mode-mode.ensures;
      noted = c.add.ensures ∙ (λ i. c.reserve.ensures.items i ++ option_to_list (c.wait_of-wait.ensures i));
    }

-- the client when the command is let go
abbrev later : After-pending_of → Sender
later c = record c.args.self.now {
  context = c.issue.new.self;
  tracker = c.note.new.tracker;
  issued = c.args.self.now.issued + 1;
  pending = c.pending_of.result;
  request = c.wait_of-wait.result;
  ops = c.add.new.ops;
}

sending : (c : After-pending_of) → IsSendingWith (later c) c.pending_of.result
sending c =
    subst (λ (w : Option WaitAt). IsSendingWith (record c.args.self.now { context = c.issue.new.self; tracker = c.note.new.tracker; issued = c.args.self.now.issued + 1; pending = c.pending_of.result; request = w; ops = c.add.new.ops }) c.pending_of.result)
    (sym c.wait_of-wait.ensures)
    (issued_sending c.args.self.now c.deref-command.result.now c.issue.new.self c.in_ok-effect.effect c.pending_of.result c.add.new.ops c.note.new.tracker (facts c))

left : (c : After-pending_of) → left_of (later c) ≡ left_of c.args.self.now
left c =
    ap (λ (w : Option WaitAt). left_of (record c.args.self.now { context = c.issue.new.self; tracker = c.note.new.tracker; issued = c.args.self.now.issued + 1; pending = c.pending_of.result; request = w; ops = c.add.new.ops })) c.wait_of-wait.ensures
    ∙ issued_left c.args.self.now c.deref-command.result.now c.issue.new.self c.in_ok-effect.effect c.pending_of.result c.add.new.ops c.note.new.tracker c.requires.pending c.requires.request (facts c)

pub returns : goal.returns
returns c = record {
  keeps = record {
    same = search rules;
    issuing =
        let held = issuing_of (later (goal.at.returns c).After-pending_of) _ (sending (goal.at.returns c).After-pending_of) in
        elim c.match-stored-3.branch [
          | in-Owned+in-TexImage-2 w ↦ subst IsIssuing (sym w.self-is) held
          | in-Owned+in-TexPart-2 w ↦ subst IsIssuing (sym w.self-is) held
          | in-Owned+in-SharedImage-2 w ↦ subst IsIssuing (sym w.self-is) held
          | in-Owned+in-Begin-2 w ↦ subst IsIssuing (sym w.self-is) held
          | in-Borrowed-2 w ↦ subst IsIssuing (sym w.self-is) held
        ];
  };
  issued = record {
    sending =
        let held = sending (goal.at.returns c).After-pending_of in
        elim c.match-stored-3.branch [
          | in-Owned+in-TexImage-2 w ↦ subst (λ (t : Sender). IsSendingWith t t.pending) (sym w.self-is) held
          | in-Owned+in-TexPart-2 w ↦ subst (λ (t : Sender). IsSendingWith t t.pending) (sym w.self-is) held
          | in-Owned+in-SharedImage-2 w ↦ subst (λ (t : Sender). IsSendingWith t t.pending) (sym w.self-is) held
          | in-Owned+in-Begin-2 w ↦ subst (λ (t : Sender). IsSendingWith t t.pending) (sym w.self-is) held
          | in-Borrowed-2 w ↦ subst (λ (t : Sender). IsSendingWith t t.pending) (sym w.self-is) held
        ];
    left =
        let same = left (goal.at.returns c).After-pending_of in
        elim c.match-stored-3.branch [
          | in-Owned+in-TexImage-2 w ↦ ap left_of w.self-is ∙ same
          | in-Owned+in-TexPart-2 w ↦ ap left_of w.self-is ∙ same
          | in-Owned+in-SharedImage-2 w ↦ ap left_of w.self-is ∙ same
          | in-Owned+in-Begin-2 w ↦ ap left_of w.self-is ∙ same
          | in-Borrowed-2 w ↦ ap left_of w.self-is ∙ same
        ];
    issued = search rules;
  };
}

use Rattle.std.proofs.Common.{◌≡◌, ◌∙◌, ◌<◌, ◌++◌, [], length, subst}
use Rattle.std.specs.declared.option.Option.{Option}
use Rattle.std.specs.Prelude.{IfNone}
use Rattle.client_issue.specs.Sequence.{items_of}
use Rattle.client_issue.specs.Cores.{commands_left, ends_from, left_by}
use Rattle.client_issue.specs.declared.item.Item.{Item}
use Rattle.client_issue.proofs.Prepared.{command_ready, end_ready, nothing_ready, cut_short, on_err}
use Rattle.client_issue.proofs.client.ClientCore.prepare.Goals as goal

pub returns-in-Some-clause-left : goal.returns-in-Some-clause-left
returns-in-Some-clause-left c =
    let s = c.args.self.now in
    let t = c.next_of_commands.new.self in
    let e = c.in_ok-item.ensures in
    let left = subst (λ (o : Option Item). commands_left s.short s.sender ≡ items_of o ++ commands_left t.short t.sender) c.in-Some.is e.left in
    command_ready s.sender t.sender s.ready s.ends t.ends s.short t.short c.requires e.same e.rest.1 c.in-Some.item left

pub returns-clause-left : goal.returns-clause-left
returns-clause-left c =
    let s = c.args.self.now in
    let t = c.next_of_commands.new.self in
    let u = c.next_end.new.self in
    let o = c.next_end.result in
    let e = c.in_ok-item.ensures in
    let f = c.next_end.ensures in
    let left = subst (λ (i : Option Item). commands_left s.short s.sender ≡ items_of i ++ commands_left t.short t.sender) c.in_default.is e.left in
    let over = subst (λ (i : Option Item). IfNone i (commands_left t.short t.sender ≡ [])) c.in_default.is e.all in
    (λ i. left_by (f.sender i) o u.ends (f.short i))
    ∙ end_ready s.sender t.sender s.ready s.ends t.ends s.short t.short c.requires e.same e.rest.1 o u.ends left over f.left

pub returns-clause-none : goal.returns-clause-none
returns-clause-none c none =
    let t = c.next_of_commands.new.self in
    let u = c.next_end.new.self in
    let o = c.next_end.result in
    let e = c.in_ok-item.ensures in
    let f = c.next_end.ensures in
    let over = subst (λ (i : Option Item). IfNone i (commands_left t.short t.sender ≡ [])) c.in_default.is e.all in
    let past = subst (λ (i : Option Item). IfNone i ((0 < u.ends) × (ends_from t.sender.layout (length t.sender.stream) u.ends ≡ []))) none f.none in
    (past.0, (λ i. left_by (f.sender i) o u.ends (f.short i)) ∙ nothing_ready t.sender o u.ends t.short none over past.1)

pub returns-in_err-item-clause-err : goal.returns-in_err-item-clause-err
returns-in_err-item-clause-err c =
    let s = c.args.self.now in
    let t = c.next_of_commands.new.self in
    let e = c.in_err-item.ensures in
    on_err c.from_residual.result _
    (e.err.0, e.err.2, cut_short s t c.requires e.rest.0 e.err.1 e.rest.1 e.err.0.ample e.err.2 e.same)

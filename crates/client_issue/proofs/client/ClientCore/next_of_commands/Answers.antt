use Rattle.std.proofs.Common.{◌∙◌}
use Rattle.client_issue.proofs.Prepared.{none_map, sound, whole_left}
use Rattle.client_issue.proofs.Requesting.{over_left}
use Rattle.client_issue.proofs.client.ClientCore.next_of_commands.Goals as goal

pub returns-then-self-gt0-clause-all : goal.returns-then-self-gt0-clause-all
returns-then-self-gt0-clause-all c =
    let s = c.args.self.now in
    whole_left s.sender s.short c.if-self.false ∙ over_left s.sender ((sound s).over c.if-self.false c.if-self-gt0.true)

pub returns-in-Ok-clause-all : goal.returns-in-Ok-clause-all
returns-in-Ok-clause-all c =
    let s = c.args.self.now in
    none_map c.in-Ok.item _ _ (λ over. whole_left c.next.new.self s.short c.if-self.false ∙ over_left c.next.new.self over) c.in-Ok.ensures.given.all

use Rattle.std.proofs.Common.{refl, rules}
use Rattle.rc_base.specs.declared.command.Command.TheVariants as cmd
use Rattle.client_issue.proofs.BlockCommands.{begin_quiet, moved_issuing, moved_left, moved_sending}
use Rattle.client_issue.proofs.sender.Sender.issue_begin.Goals as goal

pub returns : goal.returns
returns c = record {
  keeps = record {
    same = search rules;
    issuing =
        let s = c.args.self.now in
        let h = c.requires.next in
        moved_issuing s (cmd.Begin c.args.mode) c.streams_go_on_by_issue.ensures.next h.sending h.pending h.request h.more c.requires.command (begin_quiet c.args.mode)
        c.begin.new.self (c.if-not-begin.ensures.issued refl s.issued);
  };
  issued = record {
    sending =
        let s = c.args.self.now in
        let h = c.requires.next in
        moved_sending s (cmd.Begin c.args.mode) c.streams_go_on_by_issue.ensures.next h.sending h.pending h.request h.more c.requires.command (begin_quiet c.args.mode)
        c.begin.new.self (c.if-not-begin.ensures.issued refl s.issued);
    left =
        let s = c.args.self.now in
        let h = c.requires.next in
        moved_left s (cmd.Begin c.args.mode) c.streams_go_on_by_issue.ensures.next h.sending h.pending h.request h.more c.requires.command (begin_quiet c.args.mode)
        c.begin.new.self (c.if-not-begin.ensures.issued refl s.issued);
    issued = search rules;
  };
}

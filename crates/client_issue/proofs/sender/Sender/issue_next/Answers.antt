use Rattle.std.proofs.Common.{◌∙◌, ◌+◌, ap, subst, sym, rules}
use Rattle.rc_base.specs.declared.command.Command.TheVariants as cmd
use Rattle.client_issue.specs.Sequence.{left_of, IsIssuing, IsSendingWith}
use Rattle.client_issue.specs.declared.sender.Sender.{Sender}
use Rattle.client_issue.proofs.BlockCommands.{color_quiet, moved_issuing, moved_left, moved_sending, tex_coord_quiet, vertex_quiet, whole_coordinate}
use Rattle.client_issue.proofs.sender.Sender.issue_next.Goals.{in-Vertex+in_ok-vertex-in-Vertex, in-Color, in-TexCoord}
use Rattle.client_issue.proofs.sender.Sender.issue_next.Goals as goal

-- the client when the command that was issued is counted
abbrev counted : Sender → Sender
counted t = record t { issued = t.issued + 1 }

pub returns : goal.returns
returns c = record {
  keeps = record {
    same = search rules;
    issuing =
        let s = c.args.self.now in
        let h = c.requires in
        let law = c.streams_go_on_by_issue.ensures.next in
        elim c.match-borrowed.branch [
          | in-Vertex+in_ok-vertex-in-Vertex w ↦
              subst (λ (t : Sender). IsIssuing (counted t)) (sym w.self-is)
              (moved_issuing s (cmd.Vertex w.in-Vertex.pos.now) law h.sending h.pending h.request h.more w.in-Vertex.ensures (vertex_quiet w.in-Vertex.pos.now)
              w.vertex.new.self w.in_ok-vertex-in-Vertex.ensures.ok)
          | in-Color w ↦
              subst (λ (t : Sender). IsIssuing (counted t)) (sym w.self-is)
              (moved_issuing s (cmd.Color w.in-Color.color.now) law h.sending h.pending h.request h.more w.in-Color.ensures (color_quiet w.in-Color.color.now)
              w.color.new.self (w.color.ensures s.issued))
          | in-TexCoord w ↦
              subst (λ (t : Sender). IsIssuing (counted t)) (sym w.self-is)
              (moved_issuing s (cmd.TexCoord w.in-TexCoord.s.now w.in-TexCoord.t.now) law h.sending h.pending h.request h.more w.in-TexCoord.ensures (tex_coord_quiet w.in-TexCoord.s.now w.in-TexCoord.t.now)
              w.tex_coord.new.self (w.tex_coord.ensures s.issued ∙ whole_coordinate s.context s.issued w.in-TexCoord.s.now w.in-TexCoord.t.now (search) (search)))
        ];
  };
  issued = record {
    sending =
        let s = c.args.self.now in
        let h = c.requires in
        let law = c.streams_go_on_by_issue.ensures.next in
        elim c.match-borrowed.branch [
          | in-Vertex+in_ok-vertex-in-Vertex w ↦
              subst (λ (t : Sender). IsSendingWith (counted t) t.pending) (sym w.self-is)
              (moved_sending s (cmd.Vertex w.in-Vertex.pos.now) law h.sending h.pending h.request h.more w.in-Vertex.ensures (vertex_quiet w.in-Vertex.pos.now)
              w.vertex.new.self w.in_ok-vertex-in-Vertex.ensures.ok)
          | in-Color w ↦
              subst (λ (t : Sender). IsSendingWith (counted t) t.pending) (sym w.self-is)
              (moved_sending s (cmd.Color w.in-Color.color.now) law h.sending h.pending h.request h.more w.in-Color.ensures (color_quiet w.in-Color.color.now)
              w.color.new.self (w.color.ensures s.issued))
          | in-TexCoord w ↦
              subst (λ (t : Sender). IsSendingWith (counted t) t.pending) (sym w.self-is)
              (moved_sending s (cmd.TexCoord w.in-TexCoord.s.now w.in-TexCoord.t.now) law h.sending h.pending h.request h.more w.in-TexCoord.ensures (tex_coord_quiet w.in-TexCoord.s.now w.in-TexCoord.t.now)
              w.tex_coord.new.self (w.tex_coord.ensures s.issued ∙ whole_coordinate s.context s.issued w.in-TexCoord.s.now w.in-TexCoord.t.now (search) (search)))
        ];
    left =
        let s = c.args.self.now in
        let h = c.requires in
        let law = c.streams_go_on_by_issue.ensures.next in
        elim c.match-borrowed.branch [
          | in-Vertex+in_ok-vertex-in-Vertex w ↦
              ap (λ (t : Sender). left_of (counted t)) w.self-is
              ∙ (moved_left s (cmd.Vertex w.in-Vertex.pos.now) law h.sending h.pending h.request h.more w.in-Vertex.ensures (vertex_quiet w.in-Vertex.pos.now)
              w.vertex.new.self w.in_ok-vertex-in-Vertex.ensures.ok)
          | in-Color w ↦
              ap (λ (t : Sender). left_of (counted t)) w.self-is
              ∙ (moved_left s (cmd.Color w.in-Color.color.now) law h.sending h.pending h.request h.more w.in-Color.ensures (color_quiet w.in-Color.color.now)
              w.color.new.self (w.color.ensures s.issued))
          | in-TexCoord w ↦
              ap (λ (t : Sender). left_of (counted t)) w.self-is
              ∙ (moved_left s (cmd.TexCoord w.in-TexCoord.s.now w.in-TexCoord.t.now) law h.sending h.pending h.request h.more w.in-TexCoord.ensures (tex_coord_quiet w.in-TexCoord.s.now w.in-TexCoord.t.now)
              w.tex_coord.new.self (w.tex_coord.ensures s.issued ∙ whole_coordinate s.context s.issued w.in-TexCoord.s.now w.in-TexCoord.t.now (search) (search)))
        ];
    issued = search rules;
  };
}

use Rattle.std.proofs.Common.{◌≡◌, ◌-◌, length}
use Rattle.client_issue.specs.Sequence.{IsOver, IsSame, IsSending, left_of}
use Rattle.client_issue.proofs.sender.Sender.next.Given as goal

abbrev pub invariant-issuing : goal.invariant-issuing
invariant-issuing l = record {
  same : IsSame l.fn.self l.self;
  sending : IsSending l.self;
  left : left_of l.self ≡ left_of l.fn.self;
  over : IsOver l.fn.self → IsOver l.self;
}

abbrev pub decreases-issuing : goal.decreases-issuing
decreases-issuing l = length l.self.stream - l.self.issued

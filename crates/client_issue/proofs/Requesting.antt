-- A client after it has given a request.
use Rattle.std.proofs.Common.{◌≡◌, ◌∙◌, true, [], ◌∷◌, ◌++◌, length, Some, None, refl, sym, ap, arith}
use Rattle.std.specs.Prelude.{is_none, ◌&&◌}
use Rattle.std.specs.declared.option.Option.{Option}
use Rattle.rc_base.specs.Cluster.Sending.{ToManager, request_of}
use Rattle.rc_base.specs.declared.sync.WaitAt.{WaitAt}
use Rattle.client_issue.specs.Sequence.{scene_of, sent_from, pending_items, request_items, left_with, left_of, IsIssuing, IsOver, IsSendingWith}
use Rattle.client_issue.specs.declared.pending.Pending.{Pending}
use Rattle.client_issue.specs.declared.sender.Sender.{Sender}
use Rattle.client_issue.proofs.Giving.{commands_end}

pub request_left : (s : Sender) (w : WaitAt) → s.pending ≡ None → s.request ≡ Some w → left_of s ≡ ToManager (request_of w) ∷ left_of (record s { request = None })
unfolding left_with
request_left s w rests asks =
    (λ i. pending_items (scene_of s) s.layout (rests i) ++ (request_items (asks i) ++ sent_from (scene_of s) s.layout s.issued))
    ∙ ap (λ (o : Option Pending). ToManager (request_of w) ∷ (pending_items (scene_of s) s.layout o ++ sent_from (scene_of s) s.layout s.issued)) (sym rests)

pub nothing_left : (s : Sender) → s.pending ≡ None → s.request ≡ None → s.issued ≡ length s.stream → left_of s ≡ []
unfolding left_with
nothing_left s rests asks over =
    (λ i. pending_items (scene_of s) s.layout (rests i) ++ (request_items (asks i) ++ sent_from (scene_of s) s.layout s.issued))
    ∙ commands_end (scene_of s) s.layout s.issued (omega (arith, over))

both_none : (o : Option Pending) (r : Option WaitAt) → (is_none o && is_none r) ≡ true → (o ≡ None) × (r ≡ None)
both_none None None e = (refl, refl)
both_none None (Some w) e = absurd cc
both_none (Some p) r e = absurd cc

-- all was issued and given
pub over_left : (s : Sender) → IsOver s → left_of s ≡ []
over_left s h = let none = both_none s.pending s.request h.resting in nothing_left s none.0 none.1 h.issued

pub over_of : (s : Sender) → s.pending ≡ None → s.request ≡ None → s.issued ≡ length s.stream → IsOver s
over_of s rests asks over = record { resting = λ i. is_none (rests i) && is_none (asks i); issued = over }

-- what was issued so far
pub issuing_of : (s : Sender) (o : Option Pending) → IsSendingWith s o → IsIssuing s
issuing_of s o h = record { issued = h.issued; context = h.context; ops = h.ops }

-- the parcels that are pending may stand elsewhere
pub with_pending : (s : Sender) (o q : Option Pending) → IsSendingWith s o → IsSendingWith (record s { pending = q }) o
with_pending s o q h = record {
  few = h.few;
  commands = h.commands;
  count = h.count;
  tiles = h.tiles;
  issued = h.issued;
  context = h.context;
  ops = h.ops;
  tracked = h.tracked;
  known = h.known;
  marked = h.marked;
  pending = h.pending;
  asking = h.asking;
}

pub left_elsewhere : (s : Sender) (o q : Option Pending) → left_with s o ≡ left_with (record s { pending = q }) o
unfolding left_with
left_elsewhere s o q = refl

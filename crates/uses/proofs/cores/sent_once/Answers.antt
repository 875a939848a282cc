use Rattle.std.proofs.Common.{◌≡◌, ℕ, ◌+◌, List, length, Ok, sym, ap, ◌∙◌, arith}
use Rattle.rc_base.specs.Cluster.Sending.{Sending}
use Rattle.rc_base.specs.declared.cluster.ClientMoved.TheVariants.{Appended}
use Rattle.client_issue.specs.Cores.{left_in}
use Rattle.client_issue.specs.Deeds.{answer_of, ClientDeed}
use Rattle.client_issue.specs.Deeds.ClientDeed.{Appends, Requests, FindsTileFull, FindsManagerFull, Finishes, Loses}
use Rattle.client_issue.specs.Steps.{IsNextDeed}
use Rattle.client_issue.specs.declared.client.ClientCore.{ClientCore}
use Rattle.uses.proofs.cores.sent_once.Goals as goal

one_fewer : (core later : ClientCore) (did : ClientDeed) (tile : ℕ) → answer_of did ≡ Ok (Appended tile) → IsNextDeed core did later
    → length (left_in core) ≡ length (left_in later) + 1
one_fewer core later (Appends t p) tile appended next = ap (λ (items : List Sending). length items) next.1 ∙ omega arith
one_fewer core later (Requests r) tile appended next = absurd cc
one_fewer core later (FindsTileFull t p) tile appended next = absurd cc
one_fewer core later (FindsManagerFull r) tile appended next = absurd cc
one_fewer core later Finishes tile appended next = absurd cc
one_fewer core later Loses tile appended next = absurd cc

pub returns : goal.returns
returns g c tile appended =
    let did = c.step.ensures.step in
    one_fewer _ _ did.0 tile (sym did.1 ∙ appended) did.2.next

use Rattle.std.proofs.Common.{◌≡◌, ℕ, Ok, sym, ◌∙◌}
use Rattle.rc_base.specs.declared.cluster.ClientMoved.TheVariants.{BlockedTile}
use Rattle.client_issue.specs.Cores.{left_in}
use Rattle.client_issue.specs.Deeds.{answer_of, ClientDeed}
use Rattle.client_issue.specs.Deeds.ClientDeed.{Appends, Requests, FindsTileFull, FindsManagerFull, Finishes, Loses}
use Rattle.client_issue.specs.Steps.{IsNextDeed}
use Rattle.client_issue.specs.declared.client.ClientCore.{ClientCore}
use Rattle.uses.proofs.cores.held_back.Goals as goal

all_left : (core later : ClientCore) (did : ClientDeed) (tile : ℕ) → answer_of did ≡ Ok (BlockedTile tile) → IsNextDeed core did later → left_in later ≡ left_in core
all_left core later (FindsTileFull t p) tile blocked next = next.2
all_left core later (Appends t p) tile blocked next = absurd cc
all_left core later (Requests r) tile blocked next = absurd cc
all_left core later (FindsManagerFull r) tile blocked next = absurd cc
all_left core later Finishes tile blocked next = absurd cc
all_left core later Loses tile blocked next = absurd cc

pub returns : goal.returns
returns g c tile blocked =
    let did = c.step.ensures.step in
    all_left _ _ did.0 tile (sym did.1 ∙ blocked) did.2.next

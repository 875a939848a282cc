use Rattle.std.proofs.Common.{◌≡◌, ◌<◌, ℕ, true, Ok, sym, ◌∙◌}
use Rattle.std.proofs.lemmas.Bool.{not-false}
use Rattle.rc_base.specs.declared.cluster.ManagerMoved.TheVariants.{Ended}
use Rattle.rc_base.specs.declared.sync.SyncLists.{SyncLists}
use Rattle.sync_manager.specs.Progress.{ManagerProgress, answer_of, IsNextDeed}
use Rattle.sync_manager.specs.declared.deed.ManagerDeed.{ManagerDeed}
use Rattle.sync_manager.specs.declared.deed.ManagerDeed.TheVariants.{Delivers, FindsFull, Grants, Receives, Loses, FindsNoRequest, Drops, FindsNoneLeft, Finishes}
use Rattle.uses.proofs.cores.told_all.Goals as goal

all_told : (syncs : SyncLists) (tiles : ℕ) (done : ManagerProgress) (did : ManagerDeed) → answer_of did ≡ Ok Ended → IsNextDeed syncs tiles done did
    → (tile : ℕ) → tile < tiles → done.told tile ≡ true
all_told syncs tiles done Finishes ended next tile low = not-false (done.told tile) (next.0.told tile low)
all_told syncs tiles done (Delivers t g) ended next tile low = absurd cc
all_told syncs tiles done (FindsFull t) ended next tile low = absurd cc
all_told syncs tiles done (Grants e) ended next tile low = absurd cc
all_told syncs tiles done (Receives client r) ended next tile low = absurd cc
all_told syncs tiles done (Loses client place op) ended next tile low = absurd cc
all_told syncs tiles done FindsNoRequest ended next tile low = absurd cc
all_told syncs tiles done (Drops client r) ended next tile low = absurd cc
all_told syncs tiles done FindsNoneLeft ended next tile low = absurd cc

pub returns : goal.returns
returns g c ended syncs done stands tile low =
    let did = c.step.ensures.step in
    all_told syncs _ done did.0 (sym did.1 ∙ ended) (did.2.first syncs done stands) tile low

use Rattle.std.proofs.Common.{◌≡◌, ◌==◌, ℕ, Bool, true, false, cond, List, [], ◌∷◌, Some, refl, sym, ap, ◌∙◌, arith, eqb-true}
use Rattle.std.specs.Prelude.{slice_get, slice_index_or}
use Rattle.std.proofs.lemmas.List.{append_cancel_left}
use Rattle.rc_base.specs.declared.sync.Entry.{Entry as AnyEntry}
use Rattle.rc_base.specs.declared.sync.Grant.{Grant}
use Rattle.rc_base.specs.declared.sync.Grant.TheVariants.{Entry, NoMore}
use Rattle.rc_base.specs.declared.sync.SyncLists.{SyncLists}
use Rattle.sync_manager.specs.Progress.{ManagerProgress, IsGrantDue, IsNextDeed, sent_to}
use Rattle.sync_manager.specs.declared.deed.ManagerDeed.{ManagerDeed}
use Rattle.sync_manager.specs.declared.deed.ManagerDeed.TheVariants.{Delivers, FindsFull, Grants, Receives, Loses, FindsNoRequest, Drops, FindsNoneLeft, Finishes}
use Rattle.uses.proofs.cores.granted.Goals as goal

module _ (syncs : SyncLists) (tiles : ℕ) (done : ManagerProgress) (tile : ℕ) (e : AnyEntry) where
  delivered : (here : Bool) (t : ℕ) (g : Grant) → tile == t ≡ here → cond here (g ∷ []) [] ≡ Entry e ∷ [] → IsGrantDue syncs tiles done t g
      → slice_get done.book.journal (done.delivered tile) ≡ Some e
  delivered true t (Entry k) same sent due =
      let one : k ≡ e = cc in
      ap (λ (n : ℕ). slice_get done.book.journal (done.delivered n)) (eqb-true tile t same) ∙ due.1 ∙ ap Some one
  delivered true t NoMore same sent due = absurd cc
  delivered false t g same sent due = absurd cc

  next_entry : (did : ManagerDeed) → sent_to did tile ≡ Entry e ∷ [] → IsNextDeed syncs tiles done did → slice_get done.book.journal (done.delivered tile) ≡ Some e
  next_entry (Delivers t g) sent next = delivered (tile == t) t g refl sent next
  next_entry (FindsFull t) sent next = absurd cc
  next_entry (Grants k) sent next = absurd cc
  next_entry (Receives client r) sent next = absurd cc
  next_entry (Loses client place op) sent next = absurd cc
  next_entry FindsNoRequest sent next = absurd cc
  next_entry (Drops client r) sent next = absurd cc
  next_entry FindsNoneLeft sent next = absurd cc
  next_entry Finishes sent next = absurd cc

pub returns : goal.returns
returns g c tile d e low appended syncs done stands =
    let did = c.step.ensures.step in
    let before : List Grant = g.O.Outlet.sent (slice_index_or c.args.grants.now tile d) in
    let sent = sym (did.5.at tile d (omega (arith, low, c.requires.tiles))) ∙ appended in
    next_entry syncs _ done tile e did.0 (append_cancel_left before (sent_to did.0 tile) (Entry e ∷ []) sent) (did.2.first syncs done stands)

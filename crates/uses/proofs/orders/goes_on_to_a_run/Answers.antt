use Rattle.std.proofs.Common.{[], Option, Some, None, sym, subst}
use Rattle.rc_base.specs.Orders.Book.{Book as Arrivals, book_after, standing, with_entry}
use Rattle.rc_base.specs.Orders.Book.BookEvent.{Grants}
use Rattle.rc_base.specs.Orders.Grant.{grant}
use Rattle.rc_base.specs.Orders.Journal.{IsLegal}
use Rattle.rc_base.specs.Orders.Sync.{sync_lists_of}
use Rattle.rc_base.specs.declared.sync.Entry.{Entry}
use Rattle.rc_base.specs.declared.sync.SyncLists.{SyncLists}
use Rattle.order_model.specs.Gathering.{HasArrived}
use Rattle.uses.proofs.orders.goes_on_to_a_run.Goals as goal

-- what arrived stays where an entry is granted
arrived_still : (syncs : SyncLists) (b : Arrivals) (e : Option Entry) → HasArrived syncs b → HasArrived syncs (with_entry b e)
arrived_still syncs b None has = has
arrived_still syncs b (Some e) has = record { front = has.front; all = has.all }

pub returns : goal.returns
returns c l arrived stands has =
    let scene = c.args.scene.now in
    let syncs = sync_lists_of scene in
    let formed = (c.scenes_within_limits.ensures.drawable scene c.requires).formed in
    let granted = c.grant.ensures.granted syncs arrived stands in
    let later = book_after syncs arrived Grants in
    let here = arrived_still syncs arrived (grant syncs (standing syncs arrived)) has in
    let legal = subst (λ j. IsLegal syncs j) (sym granted.journal) (c.over_books_are_maximal.ensures.legal syncs later here granted.legal) in
    let k = c.unfinished_runs_go_on.ensures scene l _ (λ tile. []) formed (record { legal = legal; replays = λ tile low. tt }) in
    record { kept = k.0; lawful = k.1.lawful; begins = k.1.journal_is }

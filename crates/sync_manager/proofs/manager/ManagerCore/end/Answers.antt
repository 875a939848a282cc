use Rattle.std.proofs.Common.{refl, sym, subst}
use Rattle.rc_base.specs.Orders.Book.{book_after}
use Rattle.sync_manager.specs.Books.{IsBookOf}
use Rattle.sync_manager.proofs.ManagerSteps.{received_step, ending_event, same_journal}
use Rattle.sync_manager.proofs.manager.ManagerCore.end.Goals as goal

pub returns : goal.returns
returns c =
    let s = c.args.self.now in
    received_step s _ c.note_taken.new.self c.args.client c.args.request c.requires.received.low c.end.ensures.clients refl refl refl refl c.note_taken.ensures c.requires.received.wanted c.requires.received.task refl
    (λ syncs a h. subst (λ e. IsBookOf syncs c.end.new.self (book_after syncs a e)) (sym (ending_event syncs s a c.args.client c.args.request h c.requires.ending)) (c.end.ensures.ended syncs a h))
    (λ syncs a. same_journal syncs c.args.client c.args.request a)

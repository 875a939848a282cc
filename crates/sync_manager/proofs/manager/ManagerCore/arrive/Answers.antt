use Rattle.std.proofs.Common.{inl, inr, refl, sym, ◌∙◌, subst}
use Rattle.rc_base.specs.Orders.Book.{book_after}
use Rattle.rc_base.specs.declared.sync.Request.TheVariants.{Op}
use Rattle.sync_manager.specs.Books.{IsBookOf}
use Rattle.sync_manager.proofs.ManagerSteps.{received_step, lost_step, declared_event, same_journal}
use Rattle.sync_manager.proofs.manager.ManagerCore.arrive.Goals as goal

pub returns-in-Ok : goal.returns-in-Ok
returns-in-Ok c =
    let s = c.args.self.now in
    let r = Op c.args.place c.args.op in
    let step = received_step s _ c.note_taken.new.self c.args.client r c.requires.received.low c.arrive.ensures.clients refl refl refl refl c.note_taken.ensures c.requires.received.wanted c.requires.received.task refl
    (λ syncs a h. subst (λ e. IsBookOf syncs c.arrive.new.self (book_after syncs a e))
    (sym (declared_event syncs c.args.client c.args.place c.args.op (sym (h.declared c.args.op) ∙ c.requires.declared))) (c.in-Ok.ensures.arrived syncs a h))
    (λ syncs a. same_journal syncs c.args.client r a) in
    record { step = step; taken = inl refl }

pub returns-in-Err : goal.returns-in-Err
returns-in-Err c =
    let s = c.args.self.now in
    let step = lost_step s _ c.note_taken-in-Err.new.self c.args.client c.args.place c.args.op c.requires.received.low c.arrive.ensures.clients refl refl refl refl refl c.note_taken-in-Err.ensures
    c.requires.received.wanted c.requires.declared c.requires.received.task c.in-Err.ensures.unchanged in
    record { step = step; taken = inr (c.args.place, c.args.op, refl, refl) }

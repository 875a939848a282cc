use Rattle.std.proofs.Common.{◌≡◌, None, sym, ◌∙◌, refl, true≢false}
use Rattle.rc_base.specs.Orders.Book.{standing}
use Rattle.rc_base.specs.Orders.Grant.{grant}
use Rattle.sync_manager.proofs.BookGrants.{granted, none_granted}
use Rattle.sync_manager.proofs.book.Book.grant.Goals as goal

pub returns-in-Some-clause-entry : goal.returns-in-Some-clause-entry
returns-in-Some-clause-entry c = λ syncs b h. sym c.in-Some.is ∙ c.next_entry.ensures ∙ granted syncs c.args.self.now b h

pub returns-in-None-clause-entry : goal.returns-in-None-clause-entry
returns-in-None-clause-entry c = λ syncs b h. sym c.in-None.is ∙ c.next_entry.ensures ∙ granted syncs c.args.self.now b h

pub returns-in-None-clause-granted : goal.returns-in-None-clause-granted
returns-in-None-clause-granted c = λ syncs b h.
    let none : grant syncs (standing syncs b) ≡ None = sym (granted syncs c.args.self.now b h) ∙ sym c.next_entry.ensures ∙ c.in-None.is in
    rw none h

pub returns-in-Some-clause-none : goal.returns-in-Some-clause-none
returns-in-Some-clause-none c = λ syncs b h. (
  λ none. absurd (true≢false none),
  λ nothing. let none = (none_granted syncs c.args.self.now b h).1 nothing in let some = c.next_entry.ensures in let is = c.in-Some.is in absurd cc,
)

pub returns-in-None-clause-none : goal.returns-in-None-clause-none
returns-in-None-clause-none c = λ syncs b h.
    (λ none. (none_granted syncs c.args.self.now b h).0 (sym c.next_entry.ensures ∙ c.in-None.is), λ nothing. refl)

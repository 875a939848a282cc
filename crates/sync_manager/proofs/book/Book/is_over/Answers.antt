use Rattle.std.proofs.Common.{sym, ◌∙◌}
use Rattle.sync_manager.proofs.BookGrants.{over_is, none_granted, none_is}
use Rattle.sync_manager.proofs.book.Book.is_over.Goals as goal

pub returns-then-all_wait : goal.returns-then-all_wait
returns-then-all_wait c = λ syncs b h.
    let none = none_is c.next_entry.result c.is_none.result c.is_none.ensures in (
      λ is. over_is syncs c.args.self.now b h (c.all_wait.ensures.0 c.if-all_wait.true) (sym c.next_entry.ensures ∙ none.0 is),
      λ over. none.1 (c.next_entry.ensures ∙ (none_granted syncs c.args.self.now b h).1 over.over),
    )

use Rattle.order_model.proofs.GatheringIsLawful.{book_legal, book_maximal, book_waits_alike}
use Rattle.order_model.proofs.laws.over_books_are_maximal.Goals as goal

pub returns-clause-legal : goal.returns-clause-legal
returns-clause-legal c = book_legal

pub returns-clause-maximal : goal.returns-clause-maximal
returns-clause-maximal c = book_maximal

pub returns-clause-waiting : goal.returns-clause-waiting
returns-clause-waiting c = book_waits_alike

use Rattle.order_model.proofs.laws.books_stay_legal.Goals as goal
use Rattle.order_model.proofs.BooksStayLegal.{books_stay_legal, books_grant_exactly}

pub returns-clause-legal : goal.returns-clause-legal
returns-clause-legal c = books_stay_legal

pub returns-clause-grants : goal.returns-clause-grants
returns-clause-grants c = books_grant_exactly

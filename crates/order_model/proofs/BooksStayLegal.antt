-- What happens to a book leaves it legal, and with operations of its clients alone.
use Rattle.std.proofs.Common.{◌≡◌, ◌==◌, List, [], ◌∷◌, ◌++◌, ◌↔◌, Option, Some, None, inl, inr, refl, arith, eqb-true}
use Rattle.std.proofs.lemmas.Bool.{cases_Bool}
use Rattle.rc_base.specs.Orders.Book.{Book, BookEvent, opened, standing, with_at, with_entry, book_after, book_after_all, MayHappen, AreEvents, IsLegalBook}
use Rattle.rc_base.specs.Orders.Book.BookEvent.{Arrives, Ends, Grants}
use Rattle.rc_base.specs.Orders.Grant.{grant}
use Rattle.rc_base.specs.Orders.Journal.{SyncState, after, end_of, IsLawful, IsLegalFrom, NothingIsLawful}
use Rattle.rc_base.specs.declared.sync.Entry.{Entry}
use Rattle.rc_base.specs.declared.sync.SyncLists.{SyncLists}
use Rattle.scene_lemmas.proofs.Numbered.{with_one_behind}
use Rattle.order_model.specs.Laws.{AreOfClients}
use Rattle.order_model.proofs.ClientsBeyond.{past_end}
use Rattle.order_model.proofs.GrantsAreExact.{grant_lawful, grant_none}
use Rattle.order_model.proofs.MoreOperations.{legal_more}

-- a lawful entry behind a legal journal
legal_push : (syncs : SyncLists) (s : SyncState) (js : List Entry) (e : Entry) → IsLegalFrom syncs s js → IsLawful syncs (end_of syncs s js) e → IsLegalFrom syncs s (js ++ e ∷ [])
legal_push syncs s [] e h p = (p, tt)
legal_push syncs s (j ∷ js) e h p = (h.0, legal_push syncs (after syncs s j) js e h.1 p)

legal_with : (syncs : SyncLists) (b : Book) (o : Option Entry) → grant syncs (standing syncs b) ≡ o → IsLegalBook syncs b → IsLegalBook syncs (with_entry b o)
legal_with syncs b None is h = h
legal_with syncs b (Some e) is h = legal_push syncs (opened syncs b) b.journal e h (grant_lawful syncs (standing syncs b) e is)

legal_after : (syncs : SyncLists) (b : Book) (e : BookEvent) → IsLegalBook syncs b → IsLegalBook syncs (book_after syncs b e)
legal_after syncs b (Arrives client w) h =
    (legal_more syncs (opened syncs b) (opened syncs (book_after syncs b (Arrives client w))) (with_at (λ k. []) client (w ∷ [])) b.journal
    record { rest = with_one_behind b.arrived client w; units = refl } h).0
legal_after syncs b (Ends client) h = h
legal_after syncs b Grants h = legal_with syncs b (grant syncs (standing syncs b)) refl h

pub books_stay_legal : (syncs : SyncLists) (b : Book) (events : List BookEvent) → IsLegalBook syncs b → IsLegalBook syncs (book_after_all syncs b events)
books_stay_legal syncs b [] h = h
books_stay_legal syncs b (e ∷ es) h = books_stay_legal syncs (book_after syncs b e) es (legal_after syncs b e h)

-- ---- whose operations arrive

of_clients_with : (syncs : SyncLists) (b : Book) (o : Option Entry) → AreOfClients syncs (opened syncs b) → AreOfClients syncs (opened syncs (with_entry b o))
of_clients_with syncs b None h = h
of_clients_with syncs b (Some e) h = h

of_clients_after : (syncs : SyncLists) (b : Book) (e : BookEvent) → MayHappen syncs b e → AreOfClients syncs (opened syncs b) → AreOfClients syncs (opened syncs (book_after syncs b e))
of_clients_after syncs b (Arrives client w) may h = λ c le. elim (cases_Bool (c == client)) [
  | inl t ↦ absurd (omega (arith, may.0, le, eqb-true c client t))
  | inr n ↦ rw n (h c le)
]
of_clients_after syncs b (Ends client) may h = h
of_clients_after syncs b Grants may h = of_clients_with syncs b (grant syncs (standing syncs b)) h

of_clients_after_all : (syncs : SyncLists) (b : Book) (events : List BookEvent) → AreEvents syncs b events → AreOfClients syncs (opened syncs b)
    → AreOfClients syncs (opened syncs (book_after_all syncs b events))
of_clients_after_all syncs b [] may h = h
of_clients_after_all syncs b (e ∷ es) may h = of_clients_after_all syncs (book_after syncs b e) es may.1 (of_clients_after syncs b e may.0 h)

-- nothing is granted exactly where nothing is lawful by what arrived
pub books_grant_exactly : (syncs : SyncLists) (b : Book) (events : List BookEvent) → AreOfClients syncs (opened syncs b) → AreEvents syncs b events
    → (grant syncs (standing syncs (book_after_all syncs b events)) ≡ None) ↔ NothingIsLawful syncs (standing syncs (book_after_all syncs b events))
books_grant_exactly syncs b events none h =
    let later = book_after_all syncs b events in
    grant_none syncs (standing syncs later) (past_end syncs (opened syncs later) later.journal (of_clients_after_all syncs b events h none))

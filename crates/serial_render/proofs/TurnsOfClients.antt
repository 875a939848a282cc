-- How far clients are after one of them went on, and after a grant.
use mir.Val.{bool_byte}
use Rattle.std.proofs.Common.{◌≡◌, ℕ, zero, suc, ◌+◌, ◌-◌, ◌<◌, ◌≤◌, ◌==◌, Bool, true, false, cond, not, ◌&&◌, List, [], ◌∷◌, ◌++◌, ◌⊎◌, take, drop, set, length, Option, Some, None, refl, sym, ap, subst, ◌∙◌, arith, inl, inr, eqb-true, ne_eqb, length-set}
use Rattle.std.specs.Prelude.{slice_get, slice_index, is_some, option_map, option_to_list}
use Rattle.std.specs.Option.{option_map_or}
use Rattle.std.proofs.lemmas.Bool.{cases_Bool, cases_lt, eqb-false}
use Rattle.std.proofs.lemmas.List.{get_or-set_same, get_or-set_other, append-nil, drop_all}
use Rattle.rc_base.specs.Orders.Book.{Book as Arrivals, new_book, standing, waiting_in, with_at, with_entry, book_after, IsLegalBook}
use Rattle.rc_base.specs.Orders.Book.BookEvent.{Arrives, Grants}
use Rattle.rc_base.specs.Orders.Grant.{grant}
use Rattle.rc_base.specs.Orders.Journal.{SyncState, start, head_wait, stop, is_member, op_of, after, sync_state_after, waiting_of}
use Rattle.rc_base.specs.Orders.Order.{names_in, names_from, added, all_added, performed, default_order}
use Rattle.rc_base.specs.Orders.Sync.{IsWellFormed, client_count, ops_of, length_of}
use Rattle.rc_base.specs.declared.sync.Entry.{Entry}
use Rattle.rc_base.specs.declared.sync.Name.{Name}
use Rattle.rc_base.specs.declared.sync.SyncLists.{SyncLists}
use Rattle.rc_base.specs.declared.sync.WaitAt.{WaitAt}
use Rattle.order_model.proofs.ClientsBeyond.{ops_past}
use Rattle.order_model.proofs.GrantsAreExact.{grant_lawful}
use Rattle.order_model.proofs.MoreOperations.{IsSettled, head_append}
use Rattle.sync_manager.specs.Books.{IsBookOf, is_wanted, journal_in}
use Rattle.sync_manager.specs.declared.book.Book.{Book}
use Rattle.order_model.proofs.JournalsInTurn.{rising_first, end_push}
use Rattle.serial_render.specs.Turns.{told, left_after, IsOrderUnderWay, IsBetweenTurns, IsFrontOfDefault}
use Rattle.scene_lemmas.proofs.Numbered.{with_here}
use Rattle.serial_render.specs.declared.progress.Progress.{Progress}
use Rattle.serial_render.proofs.AddedInTurn.{own_added, other_added, none_added, all_as_meant, all_alike, all_next}
use Rattle.serial_render.proofs.GrantedTurns.{wanted_in, wanted_is, one_waits, is_free, is_settled, rest_arrived, fronts, wanted_stop, take_more, get_none, grant_alike, journal_granted, wanted_granted, front_first, front_next, order_next, granted_is, standing_is, left_less}
use Rattle.serial_render.proofs.SwapsOfJournals.{Rises, rises_end, first_within}

-- ---- what is told of one client

journal_told : (syncs : SyncLists) (b : Arrivals) (client : ℕ) (o : Option WaitAt) → (told syncs b client o).journal ≡ b.journal
journal_told syncs b client None = refl
journal_told syncs b client (Some w) = refl

at_other : {A : Type 0} (f : ℕ → A) (n k : ℕ) (x : A) → (k ≡ n → ⊥) → with_at f n x k ≡ f k
at_other f n k x ne = rw (ne_eqb k n ne) refl

not_true : (b : Bool) → (not b && not true) ≡ false
not_true true = refl
not_true false = refl

-- the client itself is wanted no more
told_own : (syncs : SyncLists) (b : Arrivals) (client : ℕ) (o : Option WaitAt) → IsLegalBook syncs b → (standing syncs b).rest client ≡ []
    → wanted_in syncs (told syncs b client o) client ≡ false
told_own syncs b client None legal none = ap (λ (e : Bool). not e && not (is_some (waiting_in syncs b client))) (with_here b.ended client true)
told_own syncs b client (Some w) legal none =
    let rest : (standing syncs (book_after syncs b (Arrives client w))).rest client ≡ w ∷ [] =
    rest_arrived syncs b client w legal client ∙ ap (λ (l : List WaitAt). l ++ with_at (λ k. []) client (w ∷ []) client) none ∙ with_here (λ k. []) client (w ∷ []) in
    ap (λ (l : List WaitAt). not (b.ended client) && not (is_some (head_wait l))) rest ∙ not_true (b.ended client)

-- the others as before
told_other : (syncs : SyncLists) (b : Arrivals) (client c : ℕ) (o : Option WaitAt) → IsLegalBook syncs b → (c ≡ client → ⊥)
    → wanted_in syncs (told syncs b client o) c ≡ wanted_in syncs b c
told_other syncs b client c None legal ne = ap (λ (e : Bool). not e && not (is_some (waiting_in syncs b c))) (at_other b.ended client c true ne)
told_other syncs b client c (Some w) legal ne =
    let rest : (standing syncs (book_after syncs b (Arrives client w))).rest c ≡ (standing syncs b).rest c =
    rest_arrived syncs b client w legal c ∙ ap (λ (l : List WaitAt). (standing syncs b).rest c ++ l) (at_other (λ k. []) client c (w ∷ []) ne) ∙ append-nil ((standing syncs b).rest c) in
    ap (λ (l : List WaitAt). not (b.ended c) && not (is_some (head_wait l))) rest

arrived_own : (syncs : SyncLists) (b : Arrivals) (client i j : ℕ) (o : Option WaitAt) → b.arrived client ≡ take i (ops_of syncs client) → o ≡ slice_get (ops_of syncs client) i
    → j ≡ i + bool_byte (is_some o) → (told syncs b client o).arrived client ≡ take j (ops_of syncs client)
arrived_own syncs b client i j None front is e = let same : i ≡ j = omega (arith, e) in front ∙ ap (λ (k : ℕ). take k (ops_of syncs client)) same
arrived_own syncs b client i j (Some w) front is e =
    let same : i + 1 ≡ j = omega (arith, e) in
    with_here b.arrived client (b.arrived client ++ w ∷ []) ∙ ap (λ (l : List WaitAt). l ++ w ∷ []) front ∙ take_more (ops_of syncs client) i w (sym is)
    ∙ ap (λ (k : ℕ). take k (ops_of syncs client)) same

arrived_other : (syncs : SyncLists) (b : Arrivals) (client c : ℕ) (o : Option WaitAt) → (c ≡ client → ⊥) → (told syncs b client o).arrived c ≡ b.arrived c
arrived_other syncs b client c None ne = refl
arrived_other syncs b client c (Some w) ne = at_other b.arrived client c (b.arrived client ++ w ∷ []) ne

ended_own : (syncs : SyncLists) (b : Arrivals) (client i j : ℕ) (o : Option WaitAt) → b.ended client ≡ false → o ≡ slice_get (ops_of syncs client) i → j ≡ i + bool_byte (is_some o)
    → (told syncs b client o).ended client ≡ true → length (ops_of syncs client) ≤ j
ended_own syncs b client i j None running is e h = omega (arith, get_none (ops_of syncs client) i (sym is), e)
ended_own syncs b client i j (Some w) running is e h = absurd (let f : b.ended client ≡ false = running in cc)

ended_other : (syncs : SyncLists) (b : Arrivals) (client c : ℕ) (o : Option WaitAt) → (c ≡ client → ⊥) → (told syncs b client o).ended c ≡ b.ended c
ended_other syncs b client c None ne = at_other b.ended client c true ne
ended_other syncs b client c (Some w) ne = refl

free_own : (syncs : SyncLists) (b : Arrivals) (client : ℕ) (o : Option WaitAt) → b.ended client ≡ false → waiting_in syncs b client ≡ None
    → (told syncs b client o).ended client ≡ true → waiting_in syncs (told syncs b client o) client ≡ None
free_own syncs b client None running none h = none
free_own syncs b client (Some w) running none h = absurd (let f : b.ended client ≡ false = running in cc)

waiting_other : (syncs : SyncLists) (b : Arrivals) (client c : ℕ) (o : Option WaitAt) → IsLegalBook syncs b → (c ≡ client → ⊥)
    → waiting_in syncs (told syncs b client o) c ≡ waiting_in syncs b c
waiting_other syncs b client c None legal ne = refl
waiting_other syncs b client c (Some w) legal ne =
    let rest : (standing syncs (book_after syncs b (Arrives client w))).rest c ≡ (standing syncs b).rest c =
    rest_arrived syncs b client w legal c ∙ ap (λ (l : List WaitAt). (standing syncs b).rest c ++ l) (at_other (λ k. []) client c (w ∷ []) ne) ∙ append-nil ((standing syncs b).rest c) in
    ap head_wait rest

same_or_not : (c client : ℕ) → (c ≡ client) ⊎ (c ≡ client → ⊥)
same_or_not c client = elim (cases_Bool (c == client)) [ inl t ↦ inl (eqb-true c client t) | inr f ↦ inr (eqb-false c client f) ]

module _ (syncs : SyncLists) (p p' : Progress) (client : ℕ) (next : Option WaitAt) (place : ℕ) (way : IsOrderUnderWay syncs p) (lt : client < client_count syncs)
    (wanted : is_wanted p.book client ≡ true) (next_is : next ≡ slice_get (ops_of syncs client) (slice_index p.arrived client))
    (place_is : place ≡ option_map_or (λ (w : WaitAt). w.place) next (length_of syncs client))
    (order_is : p'.order ≡ p.order ++ names_from client (slice_index p.issued client) (place - slice_index p.issued client))
    (issued_is : p'.issued ≡ set p.issued client place) (room : client < length p.issued)
    (arrived_is : p'.arrived ≡ set p.arrived client (slice_index p.arrived client + bool_byte (is_some next))) (room' : client < length p.arrived)
    (book_is : (b : Arrivals) → IsBookOf syncs p.book b → IsBookOf syncs p'.book (told syncs b client next)) where
  private_free : (way.book.ended client ≡ false) × (waiting_in syncs way.book client ≡ None)
  private_free = is_free syncs p.book way.book way.is_book client lt wanted

  none_waits : (standing syncs way.book).rest client ≡ []
  none_waits = one_waits syncs p.book way.book way.is_book client ∙ ap (λ (o : Option WaitAt). option_to_list o) private_free.1

  book_now : IsBookOf syncs p'.book (told syncs way.book client next)
  book_now = book_is way.book way.is_book

  pub journal_advanced : journal_in p'.book ≡ journal_in p.book
  journal_advanced = book_now.journal ∙ journal_told syncs way.book client next ∙ sym way.is_book.journal

  place_stop : place ≡ stop syncs (sync_state_after syncs (journal_in p.book)) client
  place_stop =
      place_is ∙ ap (λ (o : Option WaitAt). option_map_or (λ (w : WaitAt). w.place) o (length_of syncs client)) next_is
      ∙ wanted_stop syncs way.book p.arrived client (fronts syncs way.book p.arrived way.front way.beyond way.is_book.legal) none_waits
      ∙ ap (λ (js : List Entry). stop syncs (sync_state_after syncs js) client) (sym way.is_book.journal)

  pub order_advanced : p'.order ≡ added client (stop syncs (sync_state_after syncs (journal_in p.book)) client) p.order
  order_advanced =
      order_is ∙ ap (λ (k : ℕ). p.order ++ names_from client k (place - k)) (way.issued client lt)
      ∙ ap (λ (k : ℕ). added client k p.order) place_stop

  pub settled_advanced : is_wanted p'.book client ≡ false
  settled_advanced = wanted_is syncs p'.book (told syncs way.book client next) book_now client lt ∙ told_own syncs way.book client next way.is_book.legal none_waits

  same_wanted : (c : ℕ) → c < client_count syncs → (c ≡ client → ⊥) → is_wanted p'.book c ≡ is_wanted p.book c
  same_wanted c inside ne =
      wanted_is syncs p'.book (told syncs way.book client next) book_now c inside ∙ told_other syncs way.book client c next way.is_book.legal ne
      ∙ sym (wanted_is syncs p.book way.book way.is_book c inside)

  pub others_advanced : (c : ℕ) → c < client_count syncs → is_wanted p.book c ≡ false → is_wanted p'.book c ≡ false
  others_advanced c inside settled = elim (same_or_not c client) [
    | inl e ↦ subst (λ (k : ℕ). is_wanted p'.book k ≡ false) (sym e) settled_advanced
    | inr ne ↦ same_wanted c inside ne ∙ settled
  ]

  issued_own : slice_index p'.issued client ≡ place
  issued_own = ap (λ (l : List ℕ). slice_index l client) issued_is ∙ get_or-set_same p.issued client place 0 room

  issued_other : (c : ℕ) → (c ≡ client → ⊥) → slice_index p'.issued c ≡ slice_index p.issued c
  issued_other c ne = ap (λ (l : List ℕ). slice_index l c) issued_is ∙ get_or-set_other p.issued client c place 0 ne

  arrived_count : slice_index p'.arrived client ≡ slice_index p.arrived client + bool_byte (is_some next)
  arrived_count = ap (λ (l : List ℕ). slice_index l client) arrived_is ∙ get_or-set_same p.arrived client _ 0 room'

  count_other : (c : ℕ) → (c ≡ client → ⊥) → slice_index p'.arrived c ≡ slice_index p.arrived c
  count_other c ne = ap (λ (l : List ℕ). slice_index l c) arrived_is ∙ get_or-set_other p.arrived client c _ 0 ne

  stop_alike : (c : ℕ) → stop syncs (sync_state_after syncs (journal_in p'.book)) c ≡ stop syncs (sync_state_after syncs (journal_in p.book)) c
  stop_alike c = ap (λ (js : List Entry). stop syncs (sync_state_after syncs js) c) journal_advanced

  pub way_advanced : IsOrderUnderWay syncs p'
  way_advanced = record {
    book = told syncs way.book client next;
    is_book = book_now;
    arrivals = ap length arrived_is ∙ length-set p.arrived client _ ∙ way.arrivals;
    places = ap length issued_is ∙ length-set p.issued client place ∙ way.places;
    front = λ c inside. elim (same_or_not c client) [
      | inl e ↦ subst (λ (k : ℕ). (told syncs way.book client next).arrived k ≡ take (slice_index p'.arrived k) (ops_of syncs k)) (sym e)
          (arrived_own syncs way.book client (slice_index p.arrived client) (slice_index p'.arrived client) next (way.front client lt) next_is arrived_count)
      | inr ne ↦ arrived_other syncs way.book client c next ne ∙ way.front c inside ∙ ap (λ (k : ℕ). take k (ops_of syncs c)) (sym (count_other c ne))
    ];
    beyond = λ c past. arrived_other syncs way.book client c next (λ e. omega (arith, e, past, lt)) ∙ way.beyond c past;
    ended = λ c inside h. elim (same_or_not c client) [
      | inl e ↦ subst (λ (k : ℕ). length (ops_of syncs k) ≤ slice_index p'.arrived k) (sym e)
          (ended_own syncs way.book client (slice_index p.arrived client) (slice_index p'.arrived client) next private_free.0 next_is arrived_count
          (subst (λ (k : ℕ). (told syncs way.book client next).ended k ≡ true) e h))
      | inr ne ↦ omega (arith, count_other c ne, way.ended c inside (sym (ended_other syncs way.book client c next ne) ∙ h))
    ];
    free = λ c inside h. elim (same_or_not c client) [
      | inl e ↦ subst (λ (k : ℕ). waiting_in syncs (told syncs way.book client next) k ≡ None) (sym e)
          (free_own syncs way.book client next private_free.0 private_free.1 (subst (λ (k : ℕ). (told syncs way.book client next).ended k ≡ true) e h))
      | inr ne ↦ waiting_other syncs way.book client c next way.is_book.legal ne ∙ way.free c inside (sym (ended_other syncs way.book client c next ne) ∙ h)
    ];
    issued = λ c inside. elim (same_or_not c client) [
      | inl e ↦ subst (λ (k : ℕ). slice_index p'.issued k ≡ names_in k p'.order) (sym e)
          (let le : names_in client p.order ≤ stop syncs (sync_state_after syncs (journal_in p.book)) client = omega (arith, way.issued client lt, way.low client lt) in
          issued_own ∙ place_stop ∙ sym (own_added client (stop syncs (sync_state_after syncs (journal_in p.book)) client) p.order le) ∙ ap (names_in client) (sym order_advanced))
      | inr ne ↦
          issued_other c ne ∙ way.issued c inside ∙ sym (other_added client (stop syncs (sync_state_after syncs (journal_in p.book)) client) c p.order ne)
          ∙ ap (names_in c) (sym order_advanced)
    ];
    low = λ c inside. elim (same_or_not c client) [
      | inl e ↦ subst (λ (k : ℕ). slice_index p'.issued k ≤ stop syncs (sync_state_after syncs (journal_in p'.book)) k) (sym e)
          (omega (arith, issued_own, place_stop, stop_alike client))
      | inr ne ↦ omega (arith, issued_other c ne, way.low c inside, stop_alike c)
    ];
    stops = λ c inside settled. elim (same_or_not c client) [
      | inl e ↦ subst (λ (k : ℕ). slice_index p'.issued k ≡ stop syncs (sync_state_after syncs (journal_in p'.book)) k) (sym e) (issued_own ∙ place_stop ∙ sym (stop_alike client))
      | inr ne ↦ issued_other c ne ∙ way.stops c inside (sym (same_wanted c inside ne) ∙ settled) ∙ sym (stop_alike c)
    ];
  }

-- ---- a grant

stop_more : (ws : List WaitAt) (end : ℕ) (e : Entry) → Rises ws end → option_map (λ (w : WaitAt). w.op) (head_wait ws) ≡ Some (op_of e)
    → option_map_or (λ (w : WaitAt). w.place) (head_wait ws) end + 1 ≤ option_map_or (λ (w : WaitAt). w.place) (head_wait (drop 1 ws)) end
stop_more [] end e h is = absurd cc
stop_more (w ∷ ws) end e h is = rising_first (w.place + 1) ws end h.1.2

none_left : (ws : List WaitAt) (b : Bool) → ws ≡ [] → head_wait (cond b (drop 1 ws) ws) ≡ None
none_left ws true e = ap (λ (l : List WaitAt). head_wait (drop 1 l)) e
none_left ws false e = ap head_wait e

module _ (syncs : SyncLists) (p : Progress) (t : IsBetweenTurns syncs p) where
  -- the book grants what the default journal has next
  pub grants_next : grant syncs (sync_state_after syncs (journal_in p.book)) ≡ grant syncs (standing syncs t.way.book)
  grants_next =
      ap (λ (js : List Entry). grant syncs (sync_state_after syncs js)) t.way.is_book.journal
      ∙ grant_alike syncs (standing syncs t.way.book) (sync_state_after syncs t.way.book.journal) (λ c. drop (slice_index p.arrived c) (ops_of syncs c))
      (fronts syncs t.way.book p.arrived t.way.front t.way.beyond t.way.is_book.legal) settled
    where
      settled : IsSettled (standing syncs t.way.book) (λ c. drop (slice_index p.arrived c) (ops_of syncs c))
      settled c = elim (cases_lt c (client_count syncs)) [
        | inl inside ↦ elim (is_settled syncs p.book t.way.book t.way.is_book c inside (t.settled c inside)) [
          | inl ended ↦ inr (drop_all (slice_index p.arrived c) (ops_of syncs c) (t.way.ended c inside ended))
          | inr waits ↦ inl waits
        ]
        | inr past ↦ inr (drop_all (slice_index p.arrived c) (ops_of syncs c) (omega (arith, ap length (ops_past syncs c past))))
      ]

  -- where the book grants nothing, all is as before
  module _ (p' : Progress) (h' : IsBookOf syncs p'.book (book_after syncs t.way.book Grants)) (none : grant syncs (standing syncs t.way.book) ≡ None)
      (order_is : p'.order ≡ p.order) (arrived_is : p'.arrived ≡ p.arrived) (issued_is : p'.issued ≡ p.issued) where
    same_book : IsBookOf syncs p'.book t.way.book
    same_book = subst (IsBookOf syncs p'.book) (ap (with_entry t.way.book) none) h'

    same_journal : journal_in p'.book ≡ journal_in p.book
    same_journal = same_book.journal ∙ sym t.way.is_book.journal

    still_wanted : (c : ℕ) → c < client_count syncs → is_wanted p'.book c ≡ is_wanted p.book c
    still_wanted c inside = wanted_is syncs p'.book t.way.book same_book c inside ∙ sym (wanted_is syncs p.book t.way.book t.way.is_book c inside)

    still_stop : (c : ℕ) → stop syncs (sync_state_after syncs (journal_in p'.book)) c ≡ stop syncs (sync_state_after syncs (journal_in p.book)) c
    still_stop c = ap (λ (js : List Entry). stop syncs (sync_state_after syncs js) c) same_journal

    issued_same : (c : ℕ) → slice_index p'.issued c ≡ slice_index p.issued c
    issued_same c = ap (λ (l : List ℕ). slice_index l c) issued_is

    pub between_still : IsBetweenTurns syncs p'
    between_still = record {
      way = record {
        book = t.way.book;
        is_book = same_book;
        arrivals = ap length arrived_is ∙ t.way.arrivals;
        places = ap length issued_is ∙ t.way.places;
        front = λ c inside. t.way.front c inside ∙ ap (λ (l : List ℕ). take (slice_index l c) (ops_of syncs c)) (sym arrived_is);
        beyond = t.way.beyond;
        ended = λ c inside h. omega (arith, t.way.ended c inside h, ap (λ (l : List ℕ). slice_index l c) arrived_is);
        free = t.way.free;
        issued = λ c inside. issued_same c ∙ t.way.issued c inside ∙ ap (names_in c) (sym order_is);
        low = λ c inside. omega (arith, issued_same c, t.way.low c inside, still_stop c);
        stops = λ c inside settled. issued_same c ∙ t.way.stops c inside (t.settled c inside) ∙ sym (still_stop c);
      };
      settled = λ c inside. still_wanted c inside ∙ t.settled c inside;
      order = order_is ∙ t.order ∙ ap (default_order syncs) (sym same_journal);
      journal = subst (IsFrontOfDefault syncs) (sym same_journal) t.journal;
    }

    pub over_still : grant syncs (sync_state_after syncs (journal_in p'.book)) ≡ None
    over_still = ap (λ (js : List Entry). grant syncs (sync_state_after syncs js)) same_journal ∙ grants_next ∙ none

  -- where it grants an entry, its members go on
  module _ (kept : Book) (e : Entry) (h' : IsBookOf syncs kept (book_after syncs t.way.book Grants)) (is : grant syncs (standing syncs t.way.book) ≡ Some e) (well : IsWellFormed syncs) where
    granted : grant syncs (sync_state_after syncs (journal_in p.book)) ≡ Some e
    granted = grants_next ∙ is

    pub journal_next : journal_in kept ≡ journal_in p.book ++ e ∷ []
    journal_next = journal_granted syncs p.book kept t.way.book e t.way.is_book h' is

    now_is : sync_state_after syncs (journal_in kept) ≡ after syncs (sync_state_after syncs (journal_in p.book)) e
    now_is = ap (sync_state_after syncs) journal_next ∙ end_push syncs (start syncs) (journal_in p.book) e

    members : (c : ℕ) → c < client_count syncs → is_wanted kept c ≡ is_member (client_count syncs) e c
    members c inside = wanted_granted syncs p.book kept t.way.book e t.way.is_book h' is c inside (t.settled c inside) (t.way.free c inside)

    rises : (c : ℕ) → Rises ((sync_state_after syncs (journal_in p.book)).rest c) (length_of syncs c)
    rises c = rises_end syncs (start syncs) (journal_in p.book) c (length_of syncs c) (0, well.rising c)

    stop_member : (c : ℕ) → c < client_count syncs → is_wanted kept c ≡ true
        → stop syncs (sync_state_after syncs (journal_in p.book)) c + 1 ≤ stop syncs (sync_state_after syncs (journal_in kept)) c
    stop_member c inside w =
        let s = sync_state_after syncs (journal_in p.book) in
        let t' : is_member (client_count syncs) e c ≡ true = sym (members c inside) ∙ w in
        let more = stop_more (s.rest c) (length_of syncs c) e (rises c) ((grant_lawful syncs s e granted).next c t') in
        let after_is : stop syncs (after syncs s e) c ≡ option_map_or (λ (w : WaitAt). w.place) (head_wait (drop 1 (s.rest c))) (length_of syncs c) = rw t' refl in
        omega (arith, more, after_is, ap (λ (r : SyncState). stop syncs r c) now_is)

    stop_other : (c : ℕ) → c < client_count syncs → is_wanted kept c ≡ false
        → stop syncs (sync_state_after syncs (journal_in kept)) c ≡ stop syncs (sync_state_after syncs (journal_in p.book)) c
    stop_other c inside w =
        let f : is_member (client_count syncs) e c ≡ false = sym (members c inside) ∙ w in
        ap (λ (r : SyncState). stop syncs r c) now_is ∙ rw f refl

    pub room_next : (c : ℕ) → c < client_count syncs → is_wanted kept c ≡ true → slice_index p.issued c < length_of syncs c
    room_next c inside w =
        let within = first_within ((sync_state_after syncs (journal_in kept)).rest c) (length_of syncs c)
        (rises_end syncs (start syncs) (journal_in kept) c (length_of syncs c) (0, well.rising c)) in
        omega (arith, t.way.stops c inside (t.settled c inside), stop_member c inside w, within)

    module _ (p' : Progress) (book_is : p'.book ≡ kept) (arrived_is : p'.arrived ≡ p.arrived) (slots : length p'.issued ≡ 8)
        (issued_is : (c : ℕ) → c < client_count syncs → slice_index p'.issued c ≡ slice_index p.issued c + cond (is_wanted kept c) 1 0)
        (names_are : (c : ℕ) → c < client_count syncs → slice_index p'.issued c ≡ names_in c p'.order)
        (order_is : p'.order ≡ all_added (is_wanted kept) (λ c. slice_index p.issued c + 1) (client_count syncs) p.order) where
      issued_member : (c : ℕ) → c < client_count syncs → is_wanted kept c ≡ true → slice_index p'.issued c ≡ stop syncs (sync_state_after syncs (journal_in p.book)) c + 1
      issued_member c inside w =
          let one : slice_index p'.issued c ≡ slice_index p.issued c + 1 = issued_is c inside ∙ ap (λ (b : Bool). slice_index p.issued c + cond {A = ℕ} b 1 0) w in
          omega (arith, one, t.way.stops c inside (t.settled c inside))

      issued_still : (c : ℕ) → c < client_count syncs → is_wanted kept c ≡ false → slice_index p'.issued c ≡ stop syncs (sync_state_after syncs (journal_in kept)) c
      issued_still c inside w =
          let none : slice_index p'.issued c ≡ slice_index p.issued c + 0 = issued_is c inside ∙ ap (λ (b : Bool). slice_index p.issued c + cond {A = ℕ} b 1 0) w in
          omega (arith, none, t.way.stops c inside (t.settled c inside), stop_other c inside w)

      stop_now : (c : ℕ) → stop syncs (sync_state_after syncs (journal_in p'.book)) c ≡ stop syncs (sync_state_after syncs (journal_in kept)) c
      stop_now c = ap (λ (k : Book). stop syncs (sync_state_after syncs (journal_in k)) c) book_is

      wanted_now : (c : ℕ) → is_wanted p'.book c ≡ is_wanted kept c
      wanted_now c = ap (λ (k : Book). is_wanted k c) book_is

      granted_book : book_after syncs t.way.book Grants ≡ record t.way.book { journal = t.way.book.journal ++ e ∷ [] }
      granted_book = granted_is syncs p.book kept t.way.book e t.way.is_book h' is

      pub way_granted : IsOrderUnderWay syncs p'
      way_granted = record {
        book = book_after syncs t.way.book Grants;
        arrivals = ap length arrived_is ∙ t.way.arrivals;
        places = slots;
        is_book = subst (λ (k : Book). IsBookOf syncs k (book_after syncs t.way.book Grants)) (sym book_is) h';
        front = λ c inside. ap (λ (a : Arrivals). a.arrived c) granted_book ∙ t.way.front c inside ∙ ap (λ (l : List ℕ). take (slice_index l c) (ops_of syncs c)) (sym arrived_is);
        beyond = λ c past. ap (λ (a : Arrivals). a.arrived c) granted_book ∙ t.way.beyond c past;
        ended = λ c inside h.
            omega (arith, t.way.ended c inside (sym (ap (λ (a : Arrivals). a.ended c) granted_book) ∙ h), ap (λ (l : List ℕ). slice_index l c) arrived_is);
        free = λ c inside h.
            let before = t.way.free c inside (sym (ap (λ (a : Arrivals). a.ended c) granted_book) ∙ h) in
            let none = one_waits syncs p.book t.way.book t.way.is_book c ∙ ap (λ (o : Option WaitAt). option_to_list o) before in
            ap (λ (r : SyncState). head_wait (r.rest c)) (standing_is syncs p.book kept t.way.book e t.way.is_book h' is)
            ∙ none_left ((standing syncs t.way.book).rest c) (is_member (client_count syncs) e c) none;
        issued = names_are;
        low = λ c inside. elim (cases_Bool (is_wanted kept c)) [
          | inl w ↦ omega (arith, issued_member c inside w, stop_member c inside w, stop_now c)
          | inr f ↦ omega (arith, issued_still c inside f, stop_now c)
        ];
        stops = λ c inside f. issued_still c inside (sym (wanted_now c) ∙ f) ∙ sym (stop_now c);
      }

      -- the members' names come as in the default order
      performed_is : p'.order ≡ performed syncs (sync_state_after syncs (journal_in p.book)) e p.order
      performed_is =
          order_is
          ∙ all_alike (is_wanted kept) (is_member (client_count syncs) e) (λ c. slice_index p.issued c + 1)
          (λ c. stop syncs (sync_state_after syncs (journal_in p.book)) c + 1) (client_count syncs) p.order members
          (λ c inside w. ap (λ (k : ℕ). k + 1) (t.way.stops c inside (t.settled c inside)))

      pub between_next : (q : Progress) → IsOrderUnderWay syncs q → journal_in q.book ≡ journal_in p'.book
          → q.order ≡ all_added (λ c. true) (stop syncs (sync_state_after syncs (journal_in p'.book))) (client_count syncs) p'.order
          → ((c : ℕ) → c < client_count syncs → is_wanted q.book c ≡ false) → IsBetweenTurns syncs q
      between_next q way journal order settled =
          let n = client_count syncs in
          let last : journal_in q.book ≡ journal_in p.book ++ e ∷ [] = journal ∙ ap (λ (k : Book). journal_in k) book_is ∙ journal_next in
          let places = stop syncs (sync_state_after syncs (journal_in p'.book)) in
          let meant = all_as_meant (is_member n e) places n p'.order (λ c inside f.
          let w : is_wanted kept c ≡ false = members c inside ∙ f in
          omega (arith, names_are c inside, issued_still c inside w, stop_now c)) in
          let here : sync_state_after syncs (journal_in p'.book) ≡ sync_state_after syncs (journal_in p.book ++ e ∷ []) =
          ap (sync_state_after syncs) (ap (λ (k : Book). journal_in k) book_is ∙ journal_next) in
          record {
            way = way;
            settled = settled;
            order = order ∙ meant
                ∙ ap (λ (r : SyncState). all_added (is_member n e) (stop syncs r) n p'.order) here
                ∙ ap (λ (o : List Name). all_added (is_member n e) (stop syncs (sync_state_after syncs (journal_in p.book ++ e ∷ []))) n o)
                (performed_is ∙ ap (performed syncs (sync_state_after syncs (journal_in p.book)) e) t.order)
                ∙ sym (order_next syncs (journal_in p.book) e) ∙ ap (default_order syncs) (sym last);
            journal = subst (IsFrontOfDefault syncs) (sym last) (front_next syncs (journal_in p.book) e well t.journal granted);
          }

      pub less_next : left_after syncs (journal_in p'.book) < left_after syncs (journal_in p.book)
      less_next =
          let same : left_after syncs (journal_in p'.book) ≡ left_after syncs (journal_in p.book ++ e ∷ []) =
          ap (left_after syncs) (ap (λ (k : Book). journal_in k) book_is ∙ journal_next) in
          omega (arith, same, left_less syncs (journal_in p.book) e well granted)

-- ---- clients one after the other

-- the first clients have gone on, from an order on
pub record AreAdvanced (syncs : SyncLists) (js : List Entry) (o : List Name) (client : ℕ) (q : Progress) : Type 0 where
  pub way : IsOrderUnderWay syncs q
  pub journal : journal_in q.book ≡ js
  pub order : q.order ≡ all_added (λ c. true) (stop syncs (sync_state_after syncs js)) client o
  pub settled : (c : ℕ) → c < client → is_wanted q.book c ≡ false

pub advanced_more : (syncs : SyncLists) (js : List Entry) (o : List Name) (client : ℕ) (q r : Progress) → client < client_count syncs → AreAdvanced syncs js o client q
    → IsOrderUnderWay syncs r → journal_in r.book ≡ journal_in q.book → r.order ≡ added client (stop syncs (sync_state_after syncs (journal_in q.book)) client) q.order
    → is_wanted r.book client ≡ false → ((c : ℕ) → c < client_count syncs → is_wanted q.book c ≡ false → is_wanted r.book c ≡ false) → AreAdvanced syncs js o (client + 1) r
advanced_more syncs js o client q r lt h way journal order settled others =
    let places = stop syncs (sync_state_after syncs js) in
    record {
      way = way;
      journal = journal ∙ h.journal;
      order = order ∙ ap (λ (ks : List Entry). added client (stop syncs (sync_state_after syncs ks) client) q.order) h.journal ∙ ap (added client (places client)) h.order
          ∙ sym (all_next (λ c. true) places client client o refl);
      settled = λ c below. elim (cases_lt c client) [
        | inl earlier ↦ others c (omega (arith, earlier, lt)) (h.settled c earlier)
        | inr ge ↦ let same : client ≡ c = omega (arith, ge, below) in subst (λ (k : ℕ). is_wanted r.book k ≡ false) same settled
      ];
    }

pub advanced_skip : (syncs : SyncLists) (js : List Entry) (o : List Name) (client : ℕ) (q : Progress) → client < client_count syncs → AreAdvanced syncs js o client q
    → is_wanted q.book client ≡ false → AreAdvanced syncs js o (client + 1) q
advanced_skip syncs js o client q lt h settled =
    let places = stop syncs (sync_state_after syncs js) in
    let stands : slice_index q.issued client ≡ places client = h.way.stops client lt settled ∙ ap (λ (ks : List Entry). stop syncs (sync_state_after syncs ks) client) h.journal in
    let le : places client ≤ names_in client q.order = omega (arith, stands, h.way.issued client lt) in
    record {
      way = h.way;
      journal = h.journal;
      order = sym (none_added client (places client) q.order le) ∙ ap (added client (places client)) h.order ∙ sym (all_next (λ c. true) places client client o refl);
      settled = λ c below. elim (cases_lt c client) [
        | inl earlier ↦ h.settled c earlier
        | inr ge ↦ let same : client ≡ c = omega (arith, ge, below) in subst (λ (k : ℕ). is_wanted q.book k ≡ false) same settled
      ];
    }

-- the first clients have performed what was granted
pub record ArePerformed (syncs : SyncLists) (p : Progress) (client : ℕ) (q : Progress) : Type 0 where
  pub book : q.book ≡ p.book
  pub arrived : q.arrived ≡ p.arrived
  pub slots : length q.issued ≡ 8
  pub order : q.order ≡ all_added (is_wanted p.book) (λ c. slice_index p.issued c + 1) client p.order
  pub done : (c : ℕ) → c < client → slice_index q.issued c ≡ slice_index p.issued c + cond (is_wanted p.book c) 1 0
  pub rest : (c : ℕ) → client ≤ c → slice_index q.issued c ≡ slice_index p.issued c
  pub names : (c : ℕ) → c < client_count syncs → slice_index q.issued c ≡ names_in c q.order

step_if : (b : Bool) (n : ℕ) → b ≡ true → n + cond {A = ℕ} b 1 0 ≡ n + 1
step_if b n e = rw e refl

stay_if : (b : Bool) (n : ℕ) → b ≡ false → n + cond {A = ℕ} b 1 0 ≡ n
stay_if b n e = rw e (omega arith)

pub performed_skip : (syncs : SyncLists) (p : Progress) (client : ℕ) (q : Progress) → ArePerformed syncs p client q → is_wanted q.book client ≡ false
    → ArePerformed syncs p (client + 1) q
performed_skip syncs p client q h f =
    let f' : is_wanted p.book client ≡ false = ap (λ (k : Book). is_wanted k client) (sym h.book) ∙ f in
    let places = λ (c : ℕ). slice_index p.issued c + 1 in
    let before = all_added (is_wanted p.book) places client p.order in
    record {
      book = h.book;
      arrived = h.arrived;
      slots = h.slots;
      order = h.order ∙ sym (all_next (is_wanted p.book) places client client p.order refl ∙ ap (λ (b : Bool). cond b (added client (places client) before) before) f');
      done = λ c below. elim (cases_lt c client) [
        | inl earlier ↦ h.done c earlier
        | inr ge ↦
            let same : client ≡ c = omega (arith, ge, below) in
            subst (λ (k : ℕ). slice_index q.issued k ≡ slice_index p.issued k + cond (is_wanted p.book k) 1 0) same
            (h.rest client (omega arith) ∙ sym (stay_if (is_wanted p.book client) (slice_index p.issued client) f'))
      ];
      rest = λ c ge. h.rest c (omega (arith, ge));
      names = h.names;
    }

module _ (syncs : SyncLists) (p : Progress) (client behind : ℕ) (q r : Progress) (lt : client < client_count syncs) (few : client < 8) (h : ArePerformed syncs p client q)
    (w : is_wanted q.book client ≡ true) (behind_is : behind ≡ slice_index q.issued client + 1) (book : r.book ≡ q.book) (arrived : r.arrived ≡ q.arrived)
    (issued : r.issued ≡ set q.issued client behind) (order : r.order ≡ q.order ++ names_from client (slice_index q.issued client) (behind - slice_index q.issued client)) where
  wanted_then : is_wanted p.book client ≡ true
  wanted_then = ap (λ (k : Book). is_wanted k client) (sym h.book) ∙ w

  place_was : slice_index q.issued client ≡ slice_index p.issued client
  place_was = h.rest client (omega arith)

  order_more : r.order ≡ added client (slice_index p.issued client + 1) q.order
  order_more =
      order ∙ ap (λ (k : ℕ). q.order ++ names_from client k (behind - k)) (h.names client lt)
      ∙ ap (λ (k : ℕ). added client k q.order) (behind_is ∙ ap (λ (k : ℕ). k + 1) place_was)

  own_place : slice_index r.issued client ≡ slice_index p.issued client + 1
  own_place = ap (λ (l : List ℕ). slice_index l client) issued ∙ get_or-set_same q.issued client behind 0 (omega (arith, few, h.slots)) ∙ behind_is ∙ ap (λ (k : ℕ). k + 1) place_was

  other_place : (c : ℕ) → (c ≡ client → ⊥) → slice_index r.issued c ≡ slice_index q.issued c
  other_place c ne = ap (λ (l : List ℕ). slice_index l c) issued ∙ get_or-set_other q.issued client c behind 0 ne

  pub performed_more : ArePerformed syncs p (client + 1) r
  performed_more =
      let places = λ (c : ℕ). slice_index p.issued c + 1 in
      let before = all_added (is_wanted p.book) places client p.order in
      record {
        book = book ∙ h.book;
        arrived = arrived ∙ h.arrived;
        slots = ap length issued ∙ length-set q.issued client behind ∙ h.slots;
        order = order_more ∙ ap (added client (places client)) h.order
            ∙ sym (all_next (is_wanted p.book) places client client p.order refl ∙ ap (λ (b : Bool). cond b (added client (places client) before) before) wanted_then);
        done = λ c below. elim (cases_lt c client) [
          | inl earlier ↦ other_place c (λ e. omega (arith, e, earlier)) ∙ h.done c earlier
          | inr ge ↦
              let same : client ≡ c = omega (arith, ge, below) in
              subst (λ (k : ℕ). slice_index r.issued k ≡ slice_index p.issued k + cond (is_wanted p.book k) 1 0) same
              (own_place ∙ sym (step_if (is_wanted p.book client) (slice_index p.issued client) wanted_then))
        ];
        rest = λ c ge. other_place c (λ e. omega (arith, e, ge)) ∙ h.rest c (omega (arith, ge));
        names = λ c inside. elim (same_or_not c client) [
          | inl e ↦ subst (λ (k : ℕ). slice_index r.issued k ≡ names_in k r.order) (sym e)
              (let le : names_in client q.order ≤ slice_index p.issued client + 1 = omega (arith, h.names client lt, place_was) in
              own_place ∙ sym (own_added client (slice_index p.issued client + 1) q.order le) ∙ ap (names_in client) (sym order_more))
          | inr ne ↦ other_place c ne ∙ h.names c inside ∙ sym (other_added client (slice_index p.issued client + 1) c q.order ne) ∙ ap (names_in c) (sym order_more)
        ];
      }

-- ---- before the first turn

zeros : List ℕ
zeros = 0 ∷ 0 ∷ 0 ∷ 0 ∷ 0 ∷ 0 ∷ 0 ∷ 0 ∷ []

zero_at : (c : ℕ) → slice_index zeros c ≡ 0
unfolding zeros
zero_at zero = refl
zero_at (suc zero) = refl
zero_at (suc (suc zero)) = refl
zero_at (suc (suc (suc zero))) = refl
zero_at (suc (suc (suc (suc zero)))) = refl
zero_at (suc (suc (suc (suc (suc zero))))) = refl
zero_at (suc (suc (suc (suc (suc (suc zero)))))) = refl
zero_at (suc (suc (suc (suc (suc (suc (suc zero))))))) = refl
zero_at (suc (suc (suc (suc (suc (suc (suc (suc c)))))))) = refl

take_none : {A : Type 0} (xs : List A) (i : ℕ) → i ≡ 0 → [] ≡ take i xs
take_none xs zero e = refl
take_none xs (suc i) e = absurd (omega (arith, e))

pub way_first : (syncs : SyncLists) (kept : Book) (o : List Name) → IsBookOf syncs kept new_book → o ≡ []
    → IsOrderUnderWay syncs (record { book = kept; order = o; arrived = 0 ∷ 0 ∷ 0 ∷ 0 ∷ 0 ∷ 0 ∷ 0 ∷ 0 ∷ []; issued = 0 ∷ 0 ∷ 0 ∷ 0 ∷ 0 ∷ 0 ∷ 0 ∷ 0 ∷ [] })
unfolding zeros
way_first syncs kept o h none = record {
  book = new_book;
  is_book = h;
  arrivals = refl;
  places = refl;
  front = λ c inside. take_none (ops_of syncs c) (slice_index zeros c) (zero_at c);
  beyond = λ c past. refl;
  ended = λ c inside e. absurd cc;
  free = λ c inside e. absurd cc;
  issued = λ c inside. zero_at c ∙ sym (ap (names_in c) none);
  low = λ c inside. omega (arith, zero_at c);
  stops = λ c inside settled. elim (is_settled syncs kept new_book h c inside settled) [
    | inl e ↦ absurd cc
    | inr e ↦ absurd cc
  ];
}

pub between_first : (syncs : SyncLists) (p q : Progress) → journal_in p.book ≡ [] → p.order ≡ [] → IsOrderUnderWay syncs q → journal_in q.book ≡ journal_in p.book
    → q.order ≡ all_added (λ c. true) (stop syncs (sync_state_after syncs (journal_in p.book))) (client_count syncs) p.order
    → ((c : ℕ) → c < client_count syncs → is_wanted q.book c ≡ false) → IsBetweenTurns syncs q
between_first syncs p q none empty way journal order settled =
    let first : journal_in q.book ≡ [] = journal ∙ none in
    record {
      way = way;
      settled = settled;
      order = order ∙ ap (λ (js : List Entry). all_added (λ c. true) (stop syncs (sync_state_after syncs js)) (client_count syncs) p.order) none
          ∙ ap (all_added (λ c. true) (stop syncs (start syncs)) (client_count syncs)) empty ∙ ap (default_order syncs) (sym first);
      journal = subst (IsFrontOfDefault syncs) (sym first) (front_first syncs);
    }

-- ---- who is left waiting

pub waits_alike : (syncs : SyncLists) (p : Progress) (t : IsBetweenTurns syncs p) (c : ℕ) → waiting_in syncs t.way.book c ≡ waiting_of syncs (journal_in p.book) c
waits_alike syncs p t c =
    let b = t.way.book in
    let fr = fronts syncs b p.arrived t.way.front t.way.beyond t.way.is_book.legal in
    let extra = drop (slice_index p.arrived c) (ops_of syncs c) in
    let rest = fr.rest c in
    let same : waiting_of syncs b.journal c ≡ waiting_of syncs (journal_in p.book) c = ap (λ (js : List Entry). waiting_of syncs js c) (sym t.way.is_book.journal) in
    let none : extra ≡ [] → waiting_in syncs b c ≡ waiting_of syncs b.journal c =
    λ e. sym (ap head_wait (rest ∙ ap (λ (l : List WaitAt). (standing syncs b).rest c ++ l) e ∙ append-nil ((standing syncs b).rest c))) in
    elim (cases_lt c (client_count syncs)) [
      | inl inside ↦ elim (is_settled syncs p.book b t.way.is_book c inside (t.settled c inside)) [
        | inl ended ↦ none (drop_all (slice_index p.arrived c) (ops_of syncs c) (t.way.ended c inside ended)) ∙ same
        | inr waits ↦ sym (ap head_wait rest ∙ head_append ((standing syncs b).rest c) extra waits) ∙ same
      ]
      | inr past ↦ none (drop_all (slice_index p.arrived c) (ops_of syncs c) (omega (arith, ap length (ops_past syncs c past)))) ∙ same
    ]

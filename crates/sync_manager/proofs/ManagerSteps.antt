-- What a step of the manager makes of what was done.
use Rattle.std.proofs.Common.{true≢false, ◌≡◌, ℕ, ◌+◌, ◌-◌, ◌<◌, ◌≤◌, ◌==◌, ◌||◌, not, Bool, true, false, cond, [], ◌∷◌, length, Some, inl, inr, refl, sym, ap, ◌∙◌, subst, arith, lt-ltb, ltb-true, length-append}
use Rattle.std.proofs.lemmas.Bool.{cases_Bool, cases_lt, eqb-false, le-ltb}
use Rattle.std.proofs.lemmas.Option.{slice_get_within}
use Rattle.std.specs.Prelude.{OnOk, OnErr, nat_lt, slice_get, slice_index_or}
use Rattle.rc_base.specs.Orders.Book.{Book as Arrivals, standing, with_at, with_entry, book_after, is_declared, IsBookOver}
use Rattle.rc_base.specs.Orders.Book.BookEvent.{Arrives, Ends}
use Rattle.rc_base.specs.Orders.Grant.{grant}
use Rattle.rc_base.specs.Orders.Sync.{client_count}
use Rattle.rc_base.specs.declared.sync.Entry.{Entry}
use Rattle.rc_base.specs.declared.sync.Grant.{Grant}
use Rattle.rc_base.specs.declared.sync.Grant.TheVariants as grant_item
use Rattle.rc_base.specs.declared.sync.Request.{Request}
use Rattle.rc_base.specs.declared.sync.Request.TheVariants as request
use Rattle.rc_base.specs.declared.sync.SyncLists.{SyncLists}
use Rattle.rc_base.specs.declared.sync.SyncOp.{SyncOp}
use Rattle.plain_lemmas.proofs.Numbers.{equal_to_itself, at_one}
use Rattle.sync_manager.specs.Books.{IsBookOf, AllWaitOrEnded, clients_in, journal_in, names_declared, is_wanted}
use Rattle.sync_manager.specs.Progress.{ManagerProgress, AllDelivered, NoMoreComes, IsGrantDue, may_arrive, IsReceiving, IsDraining, is_end, event_of, IsNextDeed, answer_of, with_taken}
use Rattle.sync_manager.specs.Cores.{is_short, tiles_of, delivered_in, drained_in, IsProgressOf, IsManagerStep}
use Rattle.sync_manager.specs.Tasks.{AllSupplied, grant_in, NoMoreIn, IsDeliveryIn, IsReceivingIn, IsDrainingIn, IsEnding, IsNoted}
use Rattle.sync_manager.specs.declared.book.Book.{Book}
use Rattle.sync_manager.specs.declared.deed.ManagerDeed.{ManagerDeed}
use Rattle.sync_manager.specs.declared.deed.ManagerDeed.TheVariants.{Delivers, FindsFull, Grants, Receives, Loses, FindsNoRequest, Drops, FindsNoneLeft, Finishes}
use Rattle.sync_manager.specs.declared.manager.ManagerCore.{ManagerCore}
use Rattle.sync_manager.proofs.BookGrants.{granted, none_granted, over_is, all_wait, waiting_is}

-- ---- functions with another value at one number

with_same : (f g : ℕ → Bool) (c : ℕ) (x : Bool) (i : ℕ) → f c ≡ g c → f i ≡ g i → with_at f c (f c || x) i ≡ with_at g c (g c || x) i
with_same f g c x i here there = rw (here, there) refl

same_below : (n : ℕ) → nat_lt n n ≡ false
same_below n = elim (cases_Bool (nat_lt n n)) [ inl t ↦ absurd (let l = ltb-true n n t in omega arith) | inr f ↦ f ]

-- ---- what the core's numbers say

module _ (syncs : SyncLists) (core : ManagerCore) (d : ManagerProgress) (h : IsProgressOf syncs core d) where
  entries : length (journal_in core.book) ≡ length d.book.journal
  entries = ap length h.book.journal

  has_all : (tile : ℕ) → tile < core.supplied → tile < core.tiles → d.delivered tile ≡ length d.book.journal
  has_all tile lt low = let at = h.delivered tile low in
      let have : delivered_in core tile ≡ length (journal_in core.book) = rw (lt-ltb tile core.supplied lt) refl in at ∙ have ∙ entries

  lacks_last : (tile : ℕ) → core.supplied ≤ tile → tile < core.tiles → d.delivered tile ≡ length d.book.journal - 1
  lacks_last tile le low = let at = h.delivered tile low in
      let have : delivered_in core tile ≡ length (journal_in core.book) - 1 = rw (le-ltb tile core.supplied le) refl in at ∙ have ∙ ap (λ n. n - 1) entries

  all_delivered : AllSupplied core → (tile : ℕ) → tile < core.tiles → d.delivered tile ≡ length d.book.journal
  all_delivered supplied tile low = elim (cases_lt tile core.supplied) [
    | inl lt ↦ has_all tile lt low
    | inr ge ↦
        let none : length (journal_in core.book) ≡ 0 = ap length (supplied (omega (arith, ge, low))) in
        omega (arith, lacks_last tile ge low, entries, none)
  ]

  delivered : AllSupplied core → AllDelivered core.tiles d
  delivered supplied tile low = rw (all_delivered supplied tile low) (same_below (length d.book.journal))

  no_more : NoMoreIn core → NoMoreComes syncs d
  no_more (inl e) = inl (h.short ∙ e)
  no_more (inr e) = inr (over_is syncs core.book d.book h.book e.1 e.0)

  goes_on : (AllWaitOrEnded core.book → ⊥) → IsBookOver syncs d.book → ⊥
  goes_on g over = g (all_wait syncs core.book d.book h.book over)

  receiving : IsReceivingIn core → IsReceiving syncs core.tiles d
  receiving r = record {
    delivered = delivered r.supplied;
    ample = h.short ∙ r.ample;
    nothing = (none_granted syncs core.book d.book h.book).0 r.none;
    goes_on = goes_on r.goes_on;
  }

  draining : IsDrainingIn core → IsDraining syncs core.tiles d
  draining r = record {
    delivered = delivered r.supplied;
    no_more = no_more r.no_more;
    told = λ tile low. let at = h.told tile low in rw (at, lt-ltb tile core.told (omega (arith, low, r.told))) refl;
  }

  pub grant_due : (tile : ℕ) (g : Grant) → IsDeliveryIn core tile g → IsGrantDue syncs core.tiles d tile g
  grant_due tile (grant_item.Entry e) due =
      let some = slice_get_within (journal_in core.book) (length (journal_in core.book) - 1) e due.2 in
      let last = lacks_last tile (omega (arith, due.0)) due.1 in (
        record {
          low = due.1;
          here = lt-ltb (d.delivered tile) (length d.book.journal) (omega (arith, last, some, entries));
          lower = λ i lt. rw (has_all i (omega (arith, lt, due.0)) (omega (arith, lt, due.1))) (same_below (length d.book.journal));
        },
        subst (λ n. slice_get d.book.journal n ≡ Some e) (sym last) (subst (λ xs. slice_get xs (length xs - 1) ≡ Some e) h.book.journal due.2),
      )
  grant_due tile grant_item.NoMore due = (
    delivered due.2,
    no_more due.3,
    record {
      low = due.1;
      here = let at = h.told tile due.1 in rw (at, le-ltb tile core.told (omega (arith, due.0))) refl;
      lower = λ i lt. let at = h.told i (omega (arith, lt, due.1)) in rw (at, lt-ltb i core.told (omega (arith, lt, due.0))) refl;
    },
  )

  -- a client of the core
  module _ (client : ℕ) (low : client < clients_in core.book) where
    counted : client < client_count syncs
    counted = subst (λ n. client < n) h.book.clients low

    pub wanted_is : is_wanted core.book client ≡ may_arrive syncs d.book client
    wanted_is = rw (h.book.ended client low, sym (waiting_is syncs core.book d.book h.book client)) refl

    pub wanted_book : is_wanted core.book client ≡ true → may_arrive syncs d.book client ≡ true
    wanted_book w = sym wanted_is ∙ w

  pub full_due : (tile : ℕ) (g : Grant) → IsDeliveryIn core tile g → IsNextDeed syncs core.tiles d (FindsFull tile)
  full_due tile g due = (g, grant_due tile g due)

  pub granted_next : (e : Entry) → AllSupplied core → core.short ≡ false → grant_in core ≡ Some e → IsNextDeed syncs core.tiles d (Grants e)
  granted_next e supplied ample is = (delivered supplied, h.short ∙ ample, sym (granted syncs core.book d.book h.book) ∙ is)

  pub received_next : (client : ℕ) (r : Request) → client < clients_in core.book → is_wanted core.book client ≡ true → IsReceivingIn core → IsNextDeed syncs core.tiles d (Receives client r)
  received_next client r low wanted t = (receiving t, counted client low, wanted_book client low wanted)

  pub lost_next : (client place : ℕ) (op : SyncOp) → client < clients_in core.book → is_wanted core.book client ≡ true → names_declared core.book op ≡ true → IsReceivingIn core
      → IsNextDeed syncs core.tiles d (Loses client place op)
  lost_next client place op low wanted declared t = (receiving t, counted client low, wanted_book client low wanted, sym (h.book.declared op) ∙ declared)

  pub waiting_next : IsReceivingIn core → IsNextDeed syncs core.tiles d FindsNoRequest
  waiting_next t = receiving t

  pub dropped_next : (client : ℕ) (r : Request) → client < clients_in core.book → drained_in core client ≡ false → IsDrainingIn core → IsNextDeed syncs core.tiles d (Drops client r)
  dropped_next client r low left t = (draining t, counted client low, h.drained client low ∙ left)

  pub none_left_next : (client : ℕ) → client < clients_in core.book → drained_in core client ≡ false → IsDrainingIn core → IsNextDeed syncs core.tiles d FindsNoneLeft
  none_left_next client low left t = (draining t, (client, counted client low, h.drained client low ∙ left))

  pub finished_next : ((client : ℕ) → client < clients_in core.book → drained_in core client ≡ true) → IsDrainingIn core → IsNextDeed syncs core.tiles d Finishes
  finished_next all t = (draining t, λ client low. let low' = subst (λ n. client < n) (sym h.book.clients) low in h.drained client low' ∙ all client low')

-- ---- afterwards

below_next : (k n : ℕ) → (k == n) ≡ false → nat_lt k n ≡ nat_lt k (n + 1)
below_next k n other = elim (cases_lt k n) [
  | inl lt ↦ rw (lt-ltb k n lt, lt-ltb k (n + 1) (omega (arith, lt))) refl
  | inr ge ↦ let apart = eqb-false k n other in rw (le-ltb k n ge, le-ltb k (n + 1) (absurd_le k n ge apart)) refl
]
  where
    absurd_le : (k n : ℕ) → n ≤ k → (k ≡ n → ⊥) → n + 1 ≤ k
    absurd_le k n ge apart = elim (cases_lt n k) [ inl lt ↦ omega (arith, lt) | inr le ↦ absurd (apart (omega (arith, ge, le))) ]

module _ (core : ManagerCore) (starts : core.start ≤ clients_in core.book) where
  -- the first so many tiles have the last entry
  abbrev pub with_supplied : ℕ → ManagerCore
  with_supplied n = record { book = core.book; tiles = core.tiles; supplied = n; told = core.told; left = core.left; start = core.start; short = core.short; starts = starts }

  -- the first so many tiles have NoMore
  abbrev pub with_told : ℕ → ManagerCore
  with_told n = record { book = core.book; tiles = core.tiles; supplied = core.supplied; told = n; left = core.left; start = core.start; short = core.short; starts = starts }

  entry_step : (tile : ℕ) (e : Entry) → IsDeliveryIn core tile (grant_item.Entry e) → IsManagerStep core (Delivers tile (grant_item.Entry e)) (with_supplied (tile + 1))
  entry_step tile e due = record {
    clients = refl;
    tiles = refl;
    short = refl;
    ample = λ e. absurd (true≢false (sym e));
    first = λ syncs d h. grant_due syncs core d h tile (grant_item.Entry e) due;
    after = λ syncs d h. record {
      book = h.book;
      drained = h.drained;
      delivered = at_one (λ t. t < core.tiles → with_at d.delivered tile (d.delivered tile + 1) t ≡ cond (nat_lt t (tile + 1)) (length (journal_in core.book)) (length (journal_in core.book) - 1)) tile
          (λ low. rw (equal_to_itself tile, lt-ltb tile (tile + 1) (omega arith)) (
          let some = slice_get_within (journal_in core.book) (length (journal_in core.book) - 1) e due.2 in
          omega (arith, lacks_last syncs core d h tile (omega (arith, due.0)) due.1, some, entries syncs core d h)))
          (λ k f low. rw (f, sym (below_next k tile f), due.0) (h.delivered k low));
      told = h.told;
      next = h.next;
      short = h.short;
    };
  }

  no_more_step : (tile : ℕ) → IsDeliveryIn core tile grant_item.NoMore → IsManagerStep core (Delivers tile grant_item.NoMore) (with_told (tile + 1))
  no_more_step tile due = record {
    clients = refl;
    tiles = refl;
    short = refl;
    ample = λ e. absurd (true≢false (sym e));
    first = λ syncs d h. grant_due syncs core d h tile grant_item.NoMore due;
    after = λ syncs d h. record {
      book = h.book;
      drained = h.drained;
      delivered = h.delivered;
      told = at_one (λ t. t < core.tiles → with_at d.told tile true t ≡ nat_lt t (tile + 1)) tile
          (λ low. rw (equal_to_itself tile, lt-ltb tile (tile + 1) (omega arith)) refl)
          (λ k f low. rw (f, sym (below_next k tile f), due.0) (h.told k low));
      next = h.next;
      short = h.short;
    };
  }

  pub noted_entry : (tile : ℕ) (g : Grant) (e : Entry) → g ≡ grant_item.Entry e → IsDeliveryIn core tile g → IsManagerStep core (Delivers tile g) (with_supplied (tile + 1))
  noted_entry tile g e is due = subst (λ g. IsManagerStep core (Delivers tile g) (with_supplied (tile + 1))) (sym is) (entry_step tile e (subst (IsDeliveryIn core tile) is due))

  pub noted_no_more : (tile : ℕ) (g : Grant) → g ≡ grant_item.NoMore → IsDeliveryIn core tile g → IsManagerStep core (Delivers tile g) (with_told (tile + 1))
  noted_no_more tile g is due = subst (λ g. IsManagerStep core (Delivers tile g) (with_told (tile + 1))) (sym is) (no_more_step tile (subst (IsDeliveryIn core tile) is due))

-- the entry is granted
module _ (core : ManagerCore) (b : Book) (starts : core.start ≤ clients_in b) (clients : clients_in b ≡ clients_in core.book) where
  abbrev pub with_book : ℕ → Bool → ManagerCore
  with_book supplied short = record { book = b; tiles = core.tiles; supplied = supplied; told = core.told; left = core.left; start = core.start; short = short; starts = starts }

  pub granted_step : (e : Entry) → AllSupplied core → core.short ≡ false → grant_in core ≡ Some e
      → ((syncs : SyncLists) (a : Arrivals) → IsBookOf syncs core.book a → IsBookOf syncs b (with_entry a (grant syncs (standing syncs a))))
      → IsManagerStep core (Grants e) (with_book 0 core.short)
  granted_step e supplied ample is carried = record {
    clients = clients;
    tiles = refl;
    short = refl;
    ample = λ e. absurd (true≢false (sym e));
    first = λ syncs d h. granted_next syncs core d h e supplied ample is;
    after = λ syncs d h.
        let due : grant syncs (standing syncs d.book) ≡ Some e = sym (granted syncs core.book d.book h.book) ∙ is in
        let later : IsBookOf syncs b (with_entry d.book (Some e)) = subst (λ o. IsBookOf syncs b (with_entry d.book o)) due (carried syncs d.book h.book) in
        record {
          book = later;
          drained = λ client low. h.drained client (subst (λ n. client < n) clients low);
          delivered = λ tile low. rw (le-ltb tile 0 (omega arith)) (
              let more = ap length later.journal in let one = length-append d.book.journal (e ∷ []) in
              omega (arith, all_delivered syncs core d h supplied tile low, more, one));
          told = h.told;
          next = h.next;
          short = h.short;
        };
  }

-- a request was taken: the core as it was, with this book, and the core that noted it
module _ (core mid later : ManagerCore) (client : ℕ) (r : Request) (low : client < clients_in core.book)
    (clients : clients_in mid.book ≡ clients_in core.book) (tiles : mid.tiles ≡ core.tiles) (supplied : mid.supplied ≡ core.supplied) (told : mid.told ≡ core.told)
    (left : mid.left ≡ core.left) (noted : IsNoted mid client r later) where
  later_clients : clients_in later.book ≡ clients_in core.book
  later_clients = ap clients_in noted.book ∙ clients

  pub taken_after : (syncs : SyncLists) (d : ManagerProgress) → IsProgressOf syncs core d → (a : Arrivals) → IsBookOf syncs mid.book a → a.journal ≡ d.book.journal
      → (short : Bool) → short ≡ later.short → IsProgressOf syncs later (record (with_taken d client r) { book = a; short = short })
  taken_after syncs d h a hb journal short is = record {
    book = subst (λ k. IsBookOf syncs k a) (sym noted.book) hb;
    drained = λ i lt.
        let i_low : i < clients_in core.book = subst (λ n. i < n) later_clients lt in
        let few = core.book.is_sound.most in
        let same : (k : ℕ) → drained_in core k ≡ drained_in mid k = λ k. ap (λ xs. not (slice_index_or xs k true)) (sym left) in
        with_same d.drained (drained_in mid) client (is_end r) i (h.drained client low ∙ same client) (h.drained i i_low ∙ same i)
        ∙ sym (noted.left i (omega (arith, i_low, few)));
    delivered = λ tile lt.
        let entries : journal_in later.book ≡ journal_in core.book = ap journal_in noted.book ∙ hb.journal ∙ journal ∙ sym h.book.journal in
        let number : later.supplied ≡ core.supplied = noted.supplied ∙ supplied in
        rw (entries, number) (h.delivered tile (subst (λ n. tile < n) (noted.tiles ∙ tiles) lt));
    told = λ tile lt. h.told tile (subst (λ n. tile < n) (noted.tiles ∙ tiles) lt) ∙ ap (nat_lt tile) (sym (noted.told ∙ told));
    next = sym noted.start;
    short = is;
  }

  later_tiles : tiles_of later ≡ tiles_of core
  later_tiles = noted.tiles ∙ tiles

  -- it arrives, or ends its client
  pub received_step : is_wanted core.book client ≡ true → IsReceivingIn core → mid.short ≡ core.short
      → ((syncs : SyncLists) (a : Arrivals) → IsBookOf syncs core.book a → IsBookOf syncs mid.book (book_after syncs a (event_of syncs client r)))
      → ((syncs : SyncLists) (a : Arrivals) → (book_after syncs a (event_of syncs client r)).journal ≡ a.journal)
      → IsManagerStep core (Receives client r) later
  received_step wanted t short arrives journal = record {
    clients = later_clients;
    tiles = later_tiles;
    short = noted.short ∙ short;
    ample = λ e. absurd (true≢false (sym e));
    first = λ syncs d h. received_next syncs core d h client r low wanted t;
    after = λ syncs d h. taken_after syncs d h (book_after syncs d.book (event_of syncs client r)) (arrives syncs d.book h.book) (journal syncs d.book) d.short (h.short ∙ sym (noted.short ∙ short));
  }

  -- it is dropped
  pub dropped_step : drained_in core client ≡ false → IsDrainingIn core → mid.short ≡ core.short
      → ((syncs : SyncLists) (a : Arrivals) → IsBookOf syncs core.book a → IsBookOf syncs mid.book a)
      → IsManagerStep core (Drops client r) later
  dropped_step its t short same = record {
    clients = later_clients;
    tiles = later_tiles;
    short = noted.short ∙ short;
    ample = λ e. absurd (true≢false (sym e));
    first = λ syncs d h. dropped_next syncs core d h client r low its t;
    after = λ syncs d h. taken_after syncs d h d.book (same syncs d.book h.book) refl d.short (h.short ∙ sym (noted.short ∙ short));
  }

-- it is lost where memory lacks
module _ (core mid later : ManagerCore) (client place : ℕ) (op : SyncOp) (low : client < clients_in core.book) where
  pub lost_step : clients_in mid.book ≡ clients_in core.book → mid.tiles ≡ core.tiles → mid.supplied ≡ core.supplied → mid.told ≡ core.told → mid.left ≡ core.left → mid.short ≡ true
      → IsNoted mid client (request.Op place op) later → is_wanted core.book client ≡ true → names_declared core.book op ≡ true → IsReceivingIn core
      → ((syncs : SyncLists) (a : Arrivals) → IsBookOf syncs core.book a → IsBookOf syncs mid.book a)
      → IsManagerStep core (Loses client place op) later
  lost_step clients tiles supplied told left short noted wanted declared t same = record {
    clients = ap clients_in noted.book ∙ clients;
    tiles = noted.tiles ∙ tiles;
    short = noted.short ∙ short;
    ample = λ e. t.ample;
    first = λ syncs d h. lost_next syncs core d h client place op low wanted declared t;
    after = λ syncs d h. taken_after core mid later client (request.Op place op) low clients tiles supplied told left noted syncs d h d.book (same syncs d.book h.book) refl true (sym (noted.short ∙ short));
  }

-- ---- nothing changes

module _ (core : ManagerCore) where
  pub full_step : (tile : ℕ) (g : Grant) → IsDeliveryIn core tile g → IsManagerStep core (FindsFull tile) core
  full_step tile g due = record { clients = refl; tiles = refl; short = refl; ample = λ e. absurd (true≢false (sym e)); first = λ syncs d h. full_due syncs core d h tile g due; after = λ syncs d h. h }

  pub waiting_step : IsReceivingIn core → IsManagerStep core FindsNoRequest core
  waiting_step t = record { clients = refl; tiles = refl; short = refl; ample = λ e. absurd (true≢false (sym e)); first = λ syncs d h. waiting_next syncs core d h t; after = λ syncs d h. h }

  pub none_left_step : (client : ℕ) → client < clients_in core.book → drained_in core client ≡ false → IsDrainingIn core → IsManagerStep core FindsNoneLeft core
  none_left_step client low its t = record { clients = refl; tiles = refl; short = refl; ample = λ e. absurd (true≢false (sym e)); first = λ syncs d h. none_left_next syncs core d h client low its t; after = λ syncs d h. h }

  pub finished_step : ((client : ℕ) → client < clients_in core.book → drained_in core client ≡ true) → IsDrainingIn core → IsManagerStep core Finishes core
  finished_step all t = record { clients = refl; tiles = refl; short = refl; ample = λ e. absurd (true≢false (sym e)); first = λ syncs d h. finished_next syncs core d h all t; after = λ syncs d h. h }

-- ---- what a request does

pub declared_event : (syncs : SyncLists) (client place : ℕ) (op : SyncOp) → is_declared syncs op ≡ true → event_of syncs client (request.Op place op) ≡ Arrives client (record { place = place; op = op })
declared_event syncs client place op said = rw said refl

pub ending_event : (syncs : SyncLists) (core : ManagerCore) (a : Arrivals) (client : ℕ) (r : Request) → IsBookOf syncs core.book a → IsEnding core r → event_of syncs client r ≡ Ends client
ending_event syncs core a client (request.Op place op) h unsaid = rw (sym (h.declared op) ∙ unsaid) refl
ending_event syncs core a client request.End h unsaid = refl

pub same_journal : (syncs : SyncLists) (client : ℕ) (r : Request) (a : Arrivals) → (book_after syncs a (event_of syncs client r)).journal ≡ a.journal
same_journal syncs client (request.Op place op) a = elim (cases_Bool (is_declared syncs op)) [ inl t ↦ rw t refl | inr f ↦ rw f refl ]
same_journal syncs client request.End a = refl

-- ---- what the answer says of memory

pub err_short : (core later : ManagerCore) (deed : ManagerDeed) → IsManagerStep core deed later → OnErr (answer_of deed) ((is_short core ≡ false) × (is_short later ≡ true))
err_short core later (Delivers tile g) h = tt
err_short core later (FindsFull tile) h = tt
err_short core later (Grants e) h = tt
err_short core later (Receives client r) h = tt
err_short core later (Loses client place op) h = (h.ample refl, h.short)
err_short core later FindsNoRequest h = tt
err_short core later (Drops client r) h = tt
err_short core later FindsNoneLeft h = tt
err_short core later Finishes h = tt

pub ok_short : (core later : ManagerCore) (deed : ManagerDeed) → IsManagerStep core deed later → OnOk (answer_of deed) (is_short later ≡ is_short core)
ok_short core later (Delivers tile g) h = h.short
ok_short core later (FindsFull tile) h = h.short
ok_short core later (Grants e) h = h.short
ok_short core later (Receives client r) h = h.short
ok_short core later (Loses client place op) h = tt
ok_short core later FindsNoRequest h = h.short
ok_short core later (Drops client r) h = h.short
ok_short core later FindsNoneLeft h = h.short
ok_short core later Finishes h = h.short

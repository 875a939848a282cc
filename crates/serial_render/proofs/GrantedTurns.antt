-- What the book of clients that take turns grants is what the default journal has next.
use Rattle.std.proofs.Common.{◌≡◌, ℕ, zero, suc, ◌+◌, ◌-◌, ◌<◌, ◌≤◌, ◌==◌, Bool, true, false, cond, not, ◌&&◌, List, [], ◌∷◌, ◌++◌, ◌⊎◌, take, drop, length, Option, Some, None, refl, sym, ap, ◌∙◌, arith, inl, inr, append_assoc}
use mathlib.Core.Path.{fun_ext}
use Rattle.std.specs.Prelude.{nat_le, slice_get, slice_index, is_some, option_map, option_to_list}
use Rattle.std.specs.Option.{option_map_or, option_or}
use Rattle.std.proofs.lemmas.Bool.{cases_Bool, cases_lt}
use Rattle.std.proofs.lemmas.List.{append-nil, drop_all}
use Rattle.rc_base.specs.Orders.Book.{Book as Arrivals, opened, standing, waiting_in, with_at, with_entry, book_after, IsLegalBook}
use Rattle.rc_base.specs.Orders.Book.BookEvent.{Arrives, Grants}
use Rattle.rc_base.specs.Orders.Grant.{grant, granted_from, operations_left, first, give_by, take_by, is_at_barrier, is_at_swap, lowest}
use Rattle.rc_base.specs.Orders.Journal.{SyncState, start, head_wait, next, stop, is_member, op_of, how_many, IsLawful, after, end_of, sync_state_after}
use Rattle.rc_base.specs.Orders.Order.{default_journal, default_from, default_order, all_added, performed}
use Rattle.rc_base.specs.Orders.Sync.{IsWellFormed, client_count, ops_of, length_of, count_of}
use Rattle.rc_base.specs.declared.sync.Entry.{Entry}
use Rattle.rc_base.specs.declared.sync.Entry.TheVariants.{Meet, Swap}
use Rattle.rc_base.specs.declared.sync.Name.{Name}
use Rattle.rc_base.specs.declared.sync.SyncLists.{SyncLists}
use Rattle.rc_base.specs.declared.sync.SyncOp.{SyncOp}
use Rattle.rc_base.specs.declared.sync.WaitAt.{WaitAt}
use Rattle.order_model.proofs.ClientsBeyond.{ops_past, past_end}
use Rattle.order_model.proofs.DefaultJournalIsMaximal.{uses_one}
use Rattle.order_model.proofs.GrantsAreExact.{grant_lawful}
use Rattle.order_model.proofs.MoreOperations.{IsFront, IsSettled, legal_more, next_alike}
use Rattle.sync_manager.specs.Books.{IsBookOf, is_wanted, journal_in}
use Rattle.sync_manager.specs.Stored.{wait_at}
use Rattle.sync_manager.specs.declared.book.Book.{Book}
use Rattle.scene_lemmas.proofs.Numbered.{with_one_behind}
use Rattle.order_model.proofs.JournalsInTurn.{head_of_option, end_push}
use Rattle.serial_render.specs.Turns.{left_after, IsFrontOfDefault}

-- ---- lists

pub head_drop : {A : Type 0} (f : A → ℕ) (xs : List A) (i d : ℕ) → option_map_or f (slice_get xs i) d ≡ option_map_or f (slice_get (drop i xs) 0) d
head_drop f [] zero d = refl
head_drop f [] (suc i) d = refl
head_drop f (x ∷ xs) zero d = refl
head_drop f (x ∷ xs) (suc i) d = head_drop f xs i d

head_is : (ws : List WaitAt) (i d : ℕ) → option_map_or (λ (w : WaitAt). w.place) (head_wait (drop i ws)) d ≡ option_map_or (λ (w : WaitAt). w.place) (slice_get ws i) d
head_is [] zero d = refl
head_is [] (suc i) d = refl
head_is (w ∷ ws) zero d = refl
head_is (w ∷ ws) (suc i) d = head_is ws i d

take_drop : {A : Type 0} (xs : List A) (i : ℕ) → xs ≡ take i xs ++ drop i xs
take_drop [] zero = refl
take_drop [] (suc i) = refl
take_drop (x ∷ xs) zero = refl
take_drop {A = A} (x ∷ xs) (suc i) = ap (λ (l : List A). x ∷ l) (take_drop xs i)

pub take_more : {A : Type 0} (xs : List A) (i : ℕ) (x : A) → slice_get xs i ≡ Some x → take i xs ++ x ∷ [] ≡ take (i + 1) xs
take_more [] i x e = absurd cc
take_more {A = A} (y ∷ xs) zero x e = let same : y ≡ x = cc in ap (λ (z : A). z ∷ []) (sym same)
take_more {A = A} (y ∷ xs) (suc i) x e =
    let more : suc (i + 1) ≡ suc i + 1 = omega arith in
    ap (λ (l : List A). y ∷ l) (take_more xs i x e) ∙ ap (λ (k : ℕ). take k (y ∷ xs)) more

pub get_none : {A : Type 0} (xs : List A) (i : ℕ) → slice_get xs i ≡ None → length xs ≤ i
get_none [] i e = omega arith
get_none (x ∷ xs) zero e = absurd cc
get_none (x ∷ xs) (suc i) e = omega (arith, get_none xs i e)

-- ---- what the book says of a client

waits_is : (syncs : SyncLists) (kept : Book) (b : Arrivals) → IsBookOf syncs kept b → (c : ℕ) → wait_at kept.waiting c ≡ waiting_in syncs b c
waits_is syncs kept b h c = sym (ap (λ (s : SyncState). head_wait (s.rest c)) h.state ∙ head_of_option (wait_at kept.waiting c))

-- a client that neither waits nor has ended
abbrev pub wanted_in : SyncLists → Arrivals → ℕ → Bool
wanted_in syncs b c = not (b.ended c) && not (is_some (waiting_in syncs b c))

pub wanted_is : (syncs : SyncLists) (kept : Book) (b : Arrivals) → IsBookOf syncs kept b → (c : ℕ) → c < client_count syncs → is_wanted kept c ≡ wanted_in syncs b c
wanted_is syncs kept b h c lt =
    let inside : c < kept.clients = omega (arith, lt, h.clients) in
    ap (λ (e : Bool). not e && not (is_some (wait_at kept.waiting c))) (h.ended c inside) ∙ ap (λ (o : Option WaitAt). not (b.ended c) && not (is_some o)) (waits_is syncs kept b h c)

-- at most one operation of a client waits
pub one_waits : (syncs : SyncLists) (kept : Book) (b : Arrivals) → IsBookOf syncs kept b → (c : ℕ) → (standing syncs b).rest c ≡ option_to_list (waiting_in syncs b c)
one_waits syncs kept b h c = ap (λ (s : SyncState). s.rest c) h.state ∙ ap (λ (o : Option WaitAt). option_to_list o) (waits_is syncs kept b h c)

wanted_parts : (b : Bool) (o : Option WaitAt) → (not b && not (is_some o)) ≡ true → (b ≡ false) × (o ≡ None)
wanted_parts false None e = (refl, refl)
wanted_parts false (Some w) e = absurd cc
wanted_parts true o e = absurd cc

unwanted_parts : (b : Bool) (o : Option WaitAt) → (not b && not (is_some o)) ≡ false → (b ≡ true) ⊎ (is_some o ≡ true)
unwanted_parts true o e = inl refl
unwanted_parts false None e = absurd cc
unwanted_parts false (Some w) e = inr refl

-- who is wanted hasn't ended, and has no operation waiting
pub is_free : (syncs : SyncLists) (kept : Book) (b : Arrivals) → IsBookOf syncs kept b → (c : ℕ) → c < client_count syncs → is_wanted kept c ≡ true
    → (b.ended c ≡ false) × (waiting_in syncs b c ≡ None)
is_free syncs kept b h c lt w = wanted_parts (b.ended c) (waiting_in syncs b c) (sym (wanted_is syncs kept b h c lt) ∙ w)

-- who isn't has ended or waits
pub is_settled : (syncs : SyncLists) (kept : Book) (b : Arrivals) → IsBookOf syncs kept b → (c : ℕ) → c < client_count syncs → is_wanted kept c ≡ false
    → (b.ended c ≡ true) ⊎ (is_some (waiting_in syncs b c) ≡ true)
is_settled syncs kept b h c lt w = unwanted_parts (b.ended c) (waiting_in syncs b c) (sym (wanted_is syncs kept b h c lt) ∙ w)

-- ---- arrivals

-- an operation that arrives stands behind what waits
pub rest_arrived : (syncs : SyncLists) (b : Arrivals) (client : ℕ) (w : WaitAt) → IsLegalBook syncs b → (c : ℕ)
    → (standing syncs (book_after syncs b (Arrives client w))).rest c ≡ (standing syncs b).rest c ++ with_at (λ k. []) client (w ∷ []) c
rest_arrived syncs b client w legal c =
    ((legal_more syncs (opened syncs b) (opened syncs (book_after syncs b (Arrives client w))) (with_at (λ k. []) client (w ∷ [])) b.journal
    record { rest = with_one_behind b.arrived client w; units = refl } legal).1).rest c

-- ---- what is left of the lists

-- what arrived is a front of each client's operations, the rest of which is still to come
pub fronts : (syncs : SyncLists) (b : Arrivals) (arrived : List ℕ) → ((c : ℕ) → c < client_count syncs → b.arrived c ≡ take (slice_index arrived c) (ops_of syncs c))
    → ((c : ℕ) → client_count syncs ≤ c → b.arrived c ≡ []) → IsLegalBook syncs b
    → IsFront (standing syncs b) (sync_state_after syncs b.journal) (λ c. drop (slice_index arrived c) (ops_of syncs c))
fronts syncs b arrived front beyond legal =
    (legal_more syncs (opened syncs b) (start syncs) (λ c. drop (slice_index arrived c) (ops_of syncs c)) b.journal record { rest = rest; units = refl } legal).1
  where
    rest : (c : ℕ) → ops_of syncs c ≡ b.arrived c ++ drop (slice_index arrived c) (ops_of syncs c)
    rest c = elim (cases_lt c (client_count syncs)) [
      | inl lt ↦ take_drop (ops_of syncs c) (slice_index arrived c) ∙ ap (λ (l : List WaitAt). l ++ drop (slice_index arrived c) (ops_of syncs c)) (sym (front c lt))
      | inr ge ↦
          let none : [] ≡ drop (slice_index arrived c) (ops_of syncs c) = sym (drop_all (slice_index arrived c) (ops_of syncs c) (omega (arith, ap length (ops_past syncs c ge)))) in
          ops_past syncs c ge ∙ none ∙ ap (λ (l : List WaitAt). l ++ drop (slice_index arrived c) (ops_of syncs c)) (sym (beyond c ge))
    ]

-- a wanted client's next operation is the first that hasn't arrived
pub wanted_stop : (syncs : SyncLists) (b : Arrivals) (arrived : List ℕ) (c : ℕ) → IsFront (standing syncs b) (sync_state_after syncs b.journal) (λ c. drop (slice_index arrived c) (ops_of syncs c))
    → (standing syncs b).rest c ≡ [] → option_map_or (λ (w : WaitAt). w.place) (slice_get (ops_of syncs c) (slice_index arrived c)) (length_of syncs c) ≡ stop syncs (sync_state_after syncs b.journal) c
wanted_stop syncs b arrived c h none =
    let i = slice_index arrived c in
    let rest : (sync_state_after syncs b.journal).rest c ≡ drop i (ops_of syncs c) = h.rest c ∙ ap (λ (l : List WaitAt). l ++ drop i (ops_of syncs c)) none in
    sym (ap (λ (l : List WaitAt). option_map_or (λ (w : WaitAt). w.place) (head_wait l) (length_of syncs c)) rest ∙ head_is (ops_of syncs c) i (length_of syncs c))

-- ---- one grant

-- a grant goes by the next operations and the units alone
abbrev granted_by : SyncLists → (ℕ → Option SyncOp) → (ℕ → ℕ) → Option Entry
granted_by syncs f units =
    option_or (first (λ c. give_by c (f c)) 0 (client_count syncs))
    (option_or (first (λ c. take_by units c (f c)) 0 (client_count syncs))
    (option_or (first (λ barrier. option_map_or (λ count.
    cond (nat_le count (how_many (λ c. is_at_barrier barrier (f c)) (client_count syncs)))
    (Some (Meet barrier (lowest (λ c. is_at_barrier barrier (f c)) count (client_count syncs)))) None) (count_of syncs barrier) None) 1 (length syncs.counts))
    (cond (how_many (λ c. is_at_swap (f c)) (client_count syncs) == client_count syncs) (Some Swap) None)))

grant_by : (syncs : SyncLists) (s : SyncState) → grant syncs s ≡ granted_by syncs (next s) s.units
grant_by syncs s = refl

pub grant_alike : (syncs : SyncLists) (s t : SyncState) (extra : ℕ → List WaitAt) → IsFront s t extra → IsSettled s extra → grant syncs t ≡ grant syncs s
grant_alike syncs s t extra h settled =
    grant_by syncs t ∙ ap (λ (f : ℕ → Option SyncOp). granted_by syncs f t.units) (fun_ext (next_alike s t extra h settled))
    ∙ ap (granted_by syncs (next s)) h.units ∙ sym (grant_by syncs s)

-- after a grant exactly the members are wanted
member_wanted : (syncs : SyncLists) (b : Arrivals) (e : Entry) (c : ℕ) → IsLawful syncs (standing syncs b) e
    → (standing syncs b).rest c ≡ option_to_list (waiting_in syncs b c) → (b.ended c ≡ true → waiting_in syncs b c ≡ None)
    → (b.ended c ≡ true) ⊎ (is_some (waiting_in syncs b c) ≡ true)
    → (not (b.ended c) && not (is_some (head_wait (cond (is_member (client_count syncs) e c) (drop 1 ((standing syncs b).rest c)) ((standing syncs b).rest c))))) ≡ is_member (client_count syncs) e c
member_wanted syncs b e c lawful one none settled =
    let n = client_count syncs in
    elim (cases_Bool (is_member n e c)) [
      | inl t ↦
          let waits = lawful.next c t in
          let rest : (standing syncs b).rest c ≡ option_to_list (waiting_in syncs b c) = one in
          rw t (member (b.ended c) (waiting_in syncs b c) ((standing syncs b).rest c) (op_of e) rest waits none)
      | inr f ↦ rw f (other (b.ended c) (waiting_in syncs b c) settled)
    ]
  where
    member : (ended : Bool) (o : Option WaitAt) (ws : List WaitAt) (k : SyncOp) → ws ≡ option_to_list o → option_map (λ (w : WaitAt). w.op) (head_wait ws) ≡ Some k
        → (ended ≡ true → o ≡ None) → (not ended && not (is_some (head_wait (drop 1 ws)))) ≡ true
    member ended None ws k is waits none = absurd (let gone : option_map (λ (w : WaitAt). w.op) (head_wait ws) ≡ None = ap (λ (l : List WaitAt). option_map (λ (w : WaitAt). w.op) (head_wait l)) is in cc)
    member true (Some w) ws k is waits none = absurd (let gone = none refl in cc)
    member false (Some w) ws k is waits none = ap (λ (l : List WaitAt). not (is_some (head_wait (drop 1 l)))) is

    other : (ended : Bool) (o : Option WaitAt) → (ended ≡ true) ⊎ (is_some o ≡ true) → (not ended && not (is_some o)) ≡ false
    other true o h = refl
    other false o (inl e) = absurd cc
    other false o (inr e) = ap not e

module _ (syncs : SyncLists) (kept kept' : Book) (b : Arrivals) (e : Entry) (h : IsBookOf syncs kept b) (h' : IsBookOf syncs kept' (book_after syncs b Grants))
    (is : grant syncs (standing syncs b) ≡ Some e) where
  pub granted_is : book_after syncs b Grants ≡ record b { journal = b.journal ++ e ∷ [] }
  granted_is = ap (with_entry b) is

  pub standing_is : standing syncs (book_after syncs b Grants) ≡ after syncs (standing syncs b) e
  standing_is = ap (standing syncs) granted_is ∙ end_push syncs (opened syncs b) b.journal e

  pub journal_granted : journal_in kept' ≡ journal_in kept ++ e ∷ []
  journal_granted = h'.journal ∙ ap (λ (a : Arrivals). a.journal) granted_is ∙ ap (λ (js : List Entry). js ++ e ∷ []) (sym h.journal)

  pub wanted_granted : (c : ℕ) → c < client_count syncs → is_wanted kept c ≡ false → (b.ended c ≡ true → waiting_in syncs b c ≡ None)
      → is_wanted kept' c ≡ is_member (client_count syncs) e c
  wanted_granted c lt settled none =
      wanted_is syncs kept' (book_after syncs b Grants) h' c lt
      ∙ ap (λ (a : Arrivals). not (a.ended c) && not (is_some (waiting_in syncs (book_after syncs b Grants) c))) granted_is
      ∙ ap (λ (s : SyncState). not (b.ended c) && not (is_some (head_wait (s.rest c)))) standing_is
      ∙ member_wanted syncs b e c (grant_lawful syncs (standing syncs b) e is) (one_waits syncs kept b h c) none (is_settled syncs kept b h c lt settled)

-- ---- the default journal and the default order

pub front_first : (syncs : SyncLists) → IsFrontOfDefault syncs []
front_first syncs = record { left = left_after syncs []; is = refl; enough = omega arith }

granted_next : (syncs : SyncLists) (k : ℕ) (s : SyncState) (e : Entry) → grant syncs s ≡ Some e → 0 < k → granted_from syncs k s ≡ e ∷ granted_from syncs (k - 1) (after syncs s e)
granted_next syncs zero s e is lt = absurd (omega (arith, lt))
granted_next syncs (suc k) s e is lt =
    let one : suc k - 1 ≡ k = omega arith in
    ap (λ (o : Option Entry). option_map_or (λ e. e ∷ granted_from syncs k (after syncs s e)) o []) is ∙ ap (λ (j : ℕ). e ∷ granted_from syncs j (after syncs s e)) (sym one)

granted_none : (syncs : SyncLists) (k : ℕ) (s : SyncState) → grant syncs s ≡ None → granted_from syncs k s ≡ []
granted_none syncs zero s is = refl
granted_none syncs (suc k) s is = ap (λ (o : Option Entry). option_map_or (λ e. e ∷ granted_from syncs k (after syncs s e)) o []) is

-- each entry leaves fewer operations
pub left_less : (syncs : SyncLists) (js : List Entry) (e : Entry) → IsWellFormed syncs → grant syncs (sync_state_after syncs js) ≡ Some e
    → left_after syncs (js ++ e ∷ []) < left_after syncs js
left_less syncs js e well is =
    let s = sync_state_after syncs js in
    let less = uses_one syncs s well (past_end syncs (start syncs) js (ops_past syncs)) e (grant_lawful syncs s e is) in
    let same : left_after syncs (js ++ e ∷ []) ≡ operations_left (after syncs s e).rest (client_count syncs) =
    ap (λ (t : SyncState). operations_left t.rest (client_count syncs)) (end_push syncs (start syncs) js e) in
    omega (arith, less, same)

pub front_next : (syncs : SyncLists) (js : List Entry) (e : Entry) → IsWellFormed syncs → IsFrontOfDefault syncs js → grant syncs (sync_state_after syncs js) ≡ Some e
    → IsFrontOfDefault syncs (js ++ e ∷ [])
front_next syncs js e well h is =
    let s = sync_state_after syncs js in
    let less = left_less syncs js e well is in
    record {
      left = h.left - 1;
      is = h.is ∙ ap (λ (l : List Entry). js ++ l) (granted_next syncs h.left s e is (omega (arith, less, h.enough)))
          ∙ sym (append_assoc js (e ∷ []) (granted_from syncs (h.left - 1) (after syncs s e)))
          ∙ ap (λ (t : SyncState). (js ++ e ∷ []) ++ granted_from syncs (h.left - 1) t) (sym (end_push syncs (start syncs) js e));
      enough = omega (arith, less, h.enough);
    }

pub front_all : (syncs : SyncLists) (js : List Entry) → IsFrontOfDefault syncs js → grant syncs (sync_state_after syncs js) ≡ None → js ≡ default_journal syncs
front_all syncs js h none =
    sym (h.is ∙ ap (λ (l : List Entry). js ++ l) (granted_none syncs h.left (sync_state_after syncs js) none) ∙ append-nil js)

default_push : (syncs : SyncLists) (s : SyncState) (js : List Entry) (e : Entry) (o : List Name)
    → default_from syncs s (js ++ e ∷ []) o
    ≡ all_added (is_member (client_count syncs) e) (stop syncs (after syncs (end_of syncs s js) e)) (client_count syncs) (performed syncs (end_of syncs s js) e (default_from syncs s js o))
default_push syncs s [] e o = refl
default_push syncs s (j ∷ js) e o =
    default_push syncs (after syncs s j) js e (all_added (is_member (client_count syncs) j) (stop syncs (after syncs s j)) (client_count syncs) (performed syncs s j o))

pub order_next : (syncs : SyncLists) (js : List Entry) (e : Entry)
    → default_order syncs (js ++ e ∷ [])
    ≡ all_added (is_member (client_count syncs) e) (stop syncs (sync_state_after syncs (js ++ e ∷ []))) (client_count syncs) (performed syncs (sync_state_after syncs js) e (default_order syncs js))
order_next syncs js e =
    default_push syncs (start syncs) js e (all_added (λ c. true) (stop syncs (start syncs)) (client_count syncs) [])
    ∙ ap (λ (t : SyncState). all_added (is_member (client_count syncs) e) (stop syncs t) (client_count syncs) (performed syncs (sync_state_after syncs js) e (default_order syncs js)))
    (sym (end_push syncs (start syncs) js e))

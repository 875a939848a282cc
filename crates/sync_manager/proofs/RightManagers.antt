-- Each step of a manager leaves its lists right.
use Rattle.std.proofs.Common.{◌≡◌, ℕ, ◌+◌, ◌<◌, ◌==◌, ◌&&◌, ◌||◌, not, Bool, true, false, cond, List, [], ◌∷◌, ◌++◌, length, map, take, Some, None, inl, inr, refl, sym, ap, ◌∙◌, subst, arith, append_assoc, append-nil, length-append, true≢false, ltb-true}
use Rattle.std.proofs.lemmas.Bool.{cases_Bool, ltb-false}
use Rattle.std.proofs.lemmas.List.{map-append, take_more, take-append-le}
use Rattle.std.proofs.lemmas.List.Folds.{list_any-append}
use Rattle.std.proofs.lemmas.Option.{get_or_from_slice_get}
use Rattle.std.specs.List.{list_any}
use Rattle.std.specs.Prelude.{option_to_list, is_some}
use mathlib.Core.Path.{fun_ext}
use Rattle.rc_base.specs.Cluster.Sending.{request_of}
use Rattle.rc_base.specs.Orders.Book.{standing, waiting_in, with_at, with_entry, book_after, is_declared, IsBookOver}
use Rattle.rc_base.specs.Orders.Book.BookEvent.{Arrives, Ends}
use Rattle.rc_base.specs.Orders.Grant.{grant}
use Rattle.rc_base.specs.declared.sync.Entry.{Entry}
use Rattle.rc_base.specs.declared.sync.Grant.{Grant}
use Rattle.rc_base.specs.declared.sync.Grant.TheVariants as grant_item
use Rattle.rc_base.specs.declared.sync.Request.{Request}
use Rattle.rc_base.specs.declared.sync.Request.TheVariants as request
use Rattle.rc_base.specs.declared.sync.SyncLists.{SyncLists}
use Rattle.rc_base.specs.declared.sync.WaitAt.{WaitAt}
use Rattle.order_model.proofs.GrantsAreExact.{grant_lawful}
use Rattle.plain_lemmas.proofs.Numbers.{equal_to_itself, at_one}
use Rattle.sync_manager.specs.Progress.{ManagerProgress, new_progress, lacks_entry, lacks_end, NoMoreComes, IsGrantDue, may_arrive, IsReceiving, is_end, event_of, IsNextDeed, with_taken, with_grant, progress_after, taken_of, sent_to}
use Rattle.sync_manager.specs.Promises.{ends_client, IsSentRight, IsTakenRight, IsManagerRight}
use Rattle.sync_manager.specs.declared.deed.ManagerDeed.{ManagerDeed}
use Rattle.sync_manager.specs.declared.deed.ManagerDeed.TheVariants.{Delivers, FindsFull, Grants, Receives, Loses, FindsNoRequest, Drops, FindsNoneLeft, Finishes}

pub new_right : (syncs : SyncLists) (tiles : ℕ) → IsManagerRight syncs tiles (λ client. []) (λ tile. []) new_progress
new_right syncs tiles = record {
  clients = λ client. record { count = refl; drained = refl; rest = []; arrived = refl; ended = λ e. absurd (true≢false (sym e)); all = λ e more. refl };
  tiles_are = λ tile low. record { grants = refl; within = omega arith; whole = λ e. refl; over = λ e. absurd (true≢false (sym e)) };
}

not_true : (b : Bool) → (b ≡ true → ⊥) → b ≡ false
not_true true h = absurd (h refl)
not_true false h = refl

more_ample : (syncs : SyncLists) (d : ManagerProgress) → d.short ≡ false → (IsBookOver syncs d.book → ⊥) → NoMoreComes syncs d → ⊥
more_ample syncs d ample goes_on (inl short) = true≢false (sym short ∙ ample)
more_ample syncs d ample goes_on (inr over) = goes_on over

over_of : (syncs : SyncLists) (d : ManagerProgress) → NoMoreComes syncs d → d.short ≡ false → IsBookOver syncs d.book
over_of syncs d (inl short) ample = absurd (true≢false (sym short ∙ ample))
over_of syncs d (inr over) ample = over

-- ---- the lists that don't grow

module _ (syncs : SyncLists) (tiles : ℕ) (took : ℕ → List Request) (sent : ℕ → List Grant) (d : ManagerProgress) where
  no_more_taken : IsManagerRight syncs tiles took sent d → IsManagerRight syncs tiles (λ client. took client ++ []) sent d
  no_more_taken = subst (λ (t : ℕ → List Request). IsManagerRight syncs tiles t sent d) (sym (fun_ext (λ client. append-nil (took client))))

  no_more_sent : IsManagerRight syncs tiles took sent d → IsManagerRight syncs tiles took (λ tile. sent tile ++ []) d
  no_more_sent = subst (λ (s : ℕ → List Grant). IsManagerRight syncs tiles took s d) (sym (fun_ext (λ tile. append-nil (sent tile))))

module _ (syncs : SyncLists) (tiles : ℕ) (took : ℕ → List Request) (sent : ℕ → List Grant) (d : ManagerProgress) (h : IsManagerRight syncs tiles took sent d) where
  rests : IsManagerRight syncs tiles (λ client. took client ++ []) (λ tile. sent tile ++ []) d
  rests = no_more_taken syncs tiles took (λ tile. sent tile ++ []) d (no_more_sent syncs tiles took sent d h)

  -- ---- an item goes to a tile

  entry_sent : (tile : ℕ) (e : Entry) → IsGrantDue syncs tiles d tile (grant_item.Entry e)
      → IsManagerRight syncs tiles took (λ t. sent t ++ sent_to (Delivers tile (grant_item.Entry e)) t) (with_grant d tile (grant_item.Entry e))
  entry_sent tile e due =
      let low : d.delivered tile < length d.book.journal = ltb-true (d.delivered tile) (length d.book.journal) due.0.here in
      let now = with_grant d tile (grant_item.Entry e) in
      record {
        clients = λ c. let k = h.clients c in record { count = k.count; drained = k.drained; rest = k.rest; arrived = k.arrived; ended = k.ended; all = k.all };
        tiles_are = at_one (λ t. t < tiles → IsSentRight syncs now t (sent t ++ sent_to (Delivers tile (grant_item.Entry e)) t)) tile
            (λ lt.
            let s = h.tiles_are tile lt in
            let untold : d.told tile ≡ false = not_true (d.told tile) (λ told. let w = s.whole told in omega arith) in
            rw (equal_to_itself tile) record {
              grants =
                  let old : sent tile ≡ map (λ e. grant_item.Entry e) (take (d.delivered tile) d.book.journal) = s.grants ∙ rw untold (append-nil (map (λ e. grant_item.Entry e) (take (d.delivered tile) d.book.journal))) in
                  let here : take (d.delivered tile + 1) d.book.journal ≡ take (d.delivered tile) d.book.journal ++ e ∷ [] =
                  take_more d.book.journal (d.delivered tile) e low ∙ ap (λ x. take (d.delivered tile) d.book.journal ++ x ∷ []) (get_or_from_slice_get d.book.journal (d.delivered tile) e e due.1) in
                  rw (equal_to_itself tile, untold) (
                  ap (λ xs. xs ++ grant_item.Entry e ∷ []) old
                  ∙ sym (map-append (λ e. grant_item.Entry e) (take (d.delivered tile) d.book.journal) (e ∷ []))
                  ∙ ap (map (λ e. grant_item.Entry e)) (sym here)
                  ∙ sym (append-nil (map (λ e. grant_item.Entry e) (take (d.delivered tile + 1) d.book.journal)))
                  );
              within = rw (equal_to_itself tile) (omega arith);
              whole = λ told. absurd (true≢false (sym told ∙ untold));
              over = s.over;
            })
            (λ k f lt. let s = h.tiles_are k lt in rw f record {
              grants = append-nil (sent k) ∙ rw f s.grants;
              within = rw f s.within;
              whole = λ told. rw f (s.whole told);
              over = s.over;
            });
      }

  no_more_told : (tile : ℕ) → IsGrantDue syncs tiles d tile grant_item.NoMore
      → IsManagerRight syncs tiles took (λ t. sent t ++ sent_to (Delivers tile grant_item.NoMore) t) (with_grant d tile grant_item.NoMore)
  no_more_told tile due =
      let now = with_grant d tile grant_item.NoMore in
      record {
        clients = λ c. let k = h.clients c in record { count = k.count; drained = k.drained; rest = k.rest; arrived = k.arrived; ended = k.ended; all = k.all };
        tiles_are = at_one (λ t. t < tiles → IsSentRight syncs now t (sent t ++ sent_to (Delivers tile grant_item.NoMore) t)) tile
            (λ lt.
            let s = h.tiles_are tile lt in
            let untold : d.told tile ≡ false = unnot (d.told tile) due.2.here in
            rw (equal_to_itself tile) record {
              grants = rw (equal_to_itself tile) (ap (λ xs. xs ++ grant_item.NoMore ∷ []) (s.grants ∙ rw untold (append-nil (map (λ e. grant_item.Entry e) (take (d.delivered tile) d.book.journal)))));
              within = s.within;
              whole = λ told. let a = s.within in let b = ltb-false (d.delivered tile) (length d.book.journal) (due.0 tile lt) in omega arith;
              over = λ told ample. over_of syncs d due.1 ample;
            })
            (λ k f lt. let s = h.tiles_are k lt in rw f record {
              grants = append-nil (sent k) ∙ rw f s.grants;
              within = s.within;
              whole = rw f s.whole;
              over = rw f s.over;
            });
      }
    where
      unnot : (b : Bool) → not b ≡ true → b ≡ false
      unnot true e = absurd (true≢false (sym e))
      unnot false e = refl

  -- ---- an entry is granted

  entry_granted : (e : Entry) → d.short ≡ false → grant syncs (standing syncs d.book) ≡ Some e → IsManagerRight syncs tiles took sent (record d { book = with_entry d.book (Some e) })
  entry_granted e ample is =
      let goes_on : IsBookOver syncs d.book → ⊥ = λ over. over.over e (grant_lawful syncs (standing syncs d.book) e is) in
      record {
        clients = λ c. let k = h.clients c in record { count = k.count; drained = k.drained; rest = k.rest; arrived = k.arrived; ended = k.ended; all = λ running more. k.all running (more_ample syncs d ample goes_on) };
        tiles_are = λ tile lt.
            let s = h.tiles_are tile lt in
            let untold : d.told tile ≡ false = not_true (d.told tile) (λ told. goes_on (s.over told ample)) in
            let grown = length-append d.book.journal (e ∷ []) in
            record {
              grants = s.grants ∙ ap (λ xs. map (λ e. grant_item.Entry e) xs ++ cond (d.told tile) (grant_item.NoMore ∷ []) []) (sym (take-append-le (d.delivered tile) d.book.journal (e ∷ []) s.within));
              within = let a = s.within in omega arith;
              whole = λ told. absurd (true≢false (sym told ∙ untold));
              over = λ told. absurd (true≢false (sym told ∙ untold));
            };
      }

  -- ---- a request is taken

  module _ (client : ℕ) (r : Request) where
    abbrev grown : ℕ → List Request
    grown k = took k ++ option_to_list (cond (k == client) (Some r) None)

    counted : (k : ℕ) → with_at d.taken client (d.taken client + 1) k ≡ length (grown k)
    counted = at_one (λ k. with_at d.taken client (d.taken client + 1) k ≡ length (grown k)) client
        (rw (equal_to_itself client) (let a = (h.clients client).count in let b = length-append (took client) (r ∷ []) in omega arith))
        (λ k f. rw f ((h.clients k).count ∙ ap length (sym (append-nil (took k)))))

    one_end : (q : Request) → list_any is_end (q ∷ []) ≡ is_end q
    one_end (request.Op place op) = refl
    one_end request.End = refl

    drained : (k : ℕ) → with_at d.drained client (d.drained client || is_end r) k ≡ list_any is_end (grown k)
    drained = at_one (λ k. with_at d.drained client (d.drained client || is_end r) k ≡ list_any is_end (grown k)) client
        (rw (equal_to_itself client) (
        ap (λ b. b || is_end r) (h.clients client).drained
        ∙ ap (λ b. list_any is_end (took client) || b) (sym (one_end r))
        ∙ sym (list_any-append is_end (took client) (r ∷ []))
        ))
        (λ k f. rw f ((h.clients k).drained ∙ ap (list_any is_end) (sym (append-nil (took k)))))

    -- it is dropped
    dropped : (short : Bool) → (short ≡ false → d.short ≡ false) → NoMoreComes syncs (record (with_taken d client r) { short = short })
        → IsManagerRight syncs tiles grown sent (record (with_taken d client r) { short = short })
    dropped short ample no_more = record {
      clients = λ k.
          let o = h.clients k in
          let x = option_to_list (cond (k == client) (Some r) None) in
          record {
            count = counted k;
            drained = drained k;
            rest = o.rest ++ x;
            arrived = ap (λ xs. xs ++ x) o.arrived ∙ append_assoc (map request_of (d.book.arrived k)) o.rest x;
            ended = λ e. let n = o.ended e in (n.0, n.1 ++ x, ap (λ xs. xs ++ x) n.2, n.3);
            all = λ running more. absurd (more no_more);
          };
      tiles_are = λ tile lt.
          let s = h.tiles_are tile lt in record { grants = s.grants; within = s.within; whole = s.whole; over = λ told no. s.over told (ample no) };
    }

    -- while more comes
    module _ (ample : d.short ≡ false) (goes_on : IsBookOver syncs d.book → ⊥) (running : d.book.ended client ≡ false) where
      untold : (tile : ℕ) → tile < tiles → d.told tile ≡ false
      untold tile lt = not_true (d.told tile) (λ told. goes_on ((h.tiles_are tile lt).over told ample))

      whole : (k : ℕ) → d.book.ended k ≡ false → (h.clients k).rest ≡ []
      whole k e = (h.clients k).all e (more_ample syncs d ample goes_on)

      took_is : took client ≡ map request_of (d.book.arrived client)
      took_is = (h.clients client).arrived ∙ ap (λ xs. map request_of (d.book.arrived client) ++ xs) (whole client running) ∙ append-nil (map request_of (d.book.arrived client))

      -- it ends its client
      ends : ends_client syncs r ≡ true → IsManagerRight syncs tiles grown sent (record (with_taken d client r) { book = book_after syncs d.book (Ends client) })
      ends ending = record {
        clients = at_one (λ k. IsTakenRight syncs (record (with_taken d client r) { book = book_after syncs d.book (Ends client) }) k (grown k)) client
            record {
              count = counted client;
              drained = drained client;
              rest = r ∷ [];
              arrived = rw (equal_to_itself client) (ap (λ xs. xs ++ r ∷ []) took_is);
              ended = λ e. (r, [], refl, ending);
              all = λ e more. absurd (true≢false (rw (equal_to_itself client) at e));
            }
            (λ k f. let o = h.clients k in record {
              count = counted k;
              drained = drained k;
              rest = o.rest;
              arrived = rw f (append-nil (took k) ∙ o.arrived);
              ended = rw f o.ended;
              all = rw f (λ e more. whole k e);
            });
        tiles_are = λ tile lt.
            let s = h.tiles_are tile lt in
            record { grants = s.grants; within = s.within; whole = s.whole; over = λ told. absurd (true≢false (sym told ∙ untold tile lt)) };
      }

      -- it arrives
      arrives : (w : WaitAt) → request_of w ≡ r → IsManagerRight syncs tiles grown sent (record (with_taken d client r) { book = book_after syncs d.book (Arrives client w) })
      arrives w is = record {
        clients = at_one (λ k. IsTakenRight syncs (record (with_taken d client r) { book = book_after syncs d.book (Arrives client w) }) k (grown k)) client
            record {
              count = counted client;
              drained = drained client;
              rest = [];
              arrived = rw (equal_to_itself client) (
                  ap (λ xs. xs ++ r ∷ []) took_is
                  ∙ ap (λ q. map request_of (d.book.arrived client) ++ q ∷ []) (sym is)
                  ∙ sym (map-append request_of (d.book.arrived client) (w ∷ []))
                  ∙ sym (append-nil (map request_of (d.book.arrived client ++ w ∷ [])))
                  );
              ended = λ e. absurd (true≢false (sym e ∙ running));
              all = λ e more. refl;
            }
            (λ k f. let o = h.clients k in record {
              count = counted k;
              drained = drained k;
              rest = o.rest;
              arrived = rw f (append-nil (took k) ∙ o.arrived);
              ended = o.ended;
              all = λ e more. whole k e;
            });
        tiles_are = λ tile lt.
            let s = h.tiles_are tile lt in
            record { grants = s.grants; within = s.within; whole = s.whole; over = λ told. absurd (true≢false (sym told ∙ untold tile lt)) };
      }

  runs : (client : ℕ) → may_arrive syncs d.book client ≡ true → d.book.ended client ≡ false
  runs client = is_free (d.book.ended client) (is_some (waiting_in syncs d.book client))
    where
      is_free : (a b : Bool) → (not a && not b) ≡ true → a ≡ false
      is_free true b e = absurd (true≢false (sym e))
      is_free false b e = refl

  received : (client : ℕ) (r : Request) → IsReceiving syncs tiles d → may_arrive syncs d.book client ≡ true
      → IsManagerRight syncs tiles (grown client r) sent (record (with_taken d client r) { book = book_after syncs d.book (event_of syncs client r) })
  received client (request.Op place op) t may = elim (cases_Bool (is_declared syncs op)) [
    | inl said ↦ rw said (arrives client (request.Op place op) t.ample t.goes_on (runs client may) (record { place = place; op = op }) refl)
    | inr unsaid ↦ rw unsaid (ends client (request.Op place op) t.ample t.goes_on (runs client may) (rw unsaid refl))
  ]
  received client request.End t may = ends client request.End t.ample t.goes_on (runs client may) refl

pub step_right : (syncs : SyncLists) (tiles : ℕ) (took : ℕ → List Request) (sent : ℕ → List Grant) (d : ManagerProgress) (deed : ManagerDeed)
    → IsManagerRight syncs tiles took sent d → IsNextDeed syncs tiles d deed
    → IsManagerRight syncs tiles (λ client. took client ++ option_to_list (taken_of deed client)) (λ tile. sent tile ++ sent_to deed tile) (progress_after syncs d deed)
step_right syncs tiles took sent d (Delivers tile (grant_item.Entry e)) h next = no_more_taken syncs tiles took (λ t. sent t ++ sent_to (Delivers tile (grant_item.Entry e)) t) (with_grant d tile (grant_item.Entry e)) (entry_sent syncs tiles took sent d h tile e next)
step_right syncs tiles took sent d (Delivers tile grant_item.NoMore) h next = no_more_taken syncs tiles took (λ t. sent t ++ sent_to (Delivers tile grant_item.NoMore) t) (with_grant d tile grant_item.NoMore) (no_more_told syncs tiles took sent d h tile next)
step_right syncs tiles took sent d (FindsFull tile) h next = rests syncs tiles took sent d h
step_right syncs tiles took sent d (Grants e) h next =
    let later = record d { book = with_entry d.book (Some e) } in
    rests syncs tiles took sent later (entry_granted syncs tiles took sent d h e next.1 next.2)
step_right syncs tiles took sent d (Receives client r) h next =
    let later = record (with_taken d client r) { book = book_after syncs d.book (event_of syncs client r) } in
    no_more_sent syncs tiles (grown syncs tiles took sent d h client r) sent later (received syncs tiles took sent d h client r next.0 next.2)
step_right syncs tiles took sent d (Loses client place op) h next =
    let later = record (with_taken d client (request.Op place op)) { short = true } in
    no_more_sent syncs tiles (grown syncs tiles took sent d h client (request.Op place op)) sent later (dropped syncs tiles took sent d h client (request.Op place op) true (λ e. absurd (true≢false e)) (inl refl))
step_right syncs tiles took sent d FindsNoRequest h next = rests syncs tiles took sent d h
step_right syncs tiles took sent d (Drops client r) h next =
    no_more_sent syncs tiles (grown syncs tiles took sent d h client r) sent (with_taken d client r) (dropped syncs tiles took sent d h client r d.short (λ e. e) next.0.no_more)
step_right syncs tiles took sent d FindsNoneLeft h next = rests syncs tiles took sent d h
step_right syncs tiles took sent d Finishes h next = rests syncs tiles took sent d h

-- ---- nothing is left to do

module _ (syncs : SyncLists) (tiles : ℕ) (d : ManagerProgress) (done : IsNextDeed syncs tiles d Finishes) where
  clash : {A : Type 0} (b : Bool) → b ≡ true → b ≡ false → A
  clash b t f = absurd (true≢false (sym t ∙ f))

  none_due : {A : Type 0} (tile : ℕ) (g : Grant) → IsGrantDue syncs tiles d tile g → A
  none_due tile (grant_item.Entry e) due = clash (lacks_entry d tile) due.0.here (done.0.delivered tile due.0.low)
  none_due tile grant_item.NoMore due = clash (lacks_end d tile) due.2.here (done.0.told tile due.2.low)

  none_comes : {A : Type 0} → d.short ≡ false → (IsBookOver syncs d.book → ⊥) → A
  none_comes ample goes_on = absurd (more_ample syncs d ample goes_on done.0.no_more)

  pub finishes : (deed : ManagerDeed) → IsNextDeed syncs tiles d deed → deed ≡ Finishes
  finishes (Delivers tile g) next = none_due tile g next
  finishes (FindsFull tile) next = none_due tile next.0 next.1
  finishes (Grants e) next = none_comes next.1 (λ over. over.over e (grant_lawful syncs (standing syncs d.book) e next.2))
  finishes (Receives client r) next = none_comes next.0.ample next.0.goes_on
  finishes (Loses client place op) next = none_comes next.0.ample next.0.goes_on
  finishes FindsNoRequest next = none_comes next.ample next.goes_on
  finishes (Drops client r) next = clash (d.drained client) (done.1 client next.1) next.2
  finishes FindsNoneLeft next = clash (d.drained next.1.0) (done.1 next.1.0 next.1.1) next.1.2
  finishes Finishes next = refl

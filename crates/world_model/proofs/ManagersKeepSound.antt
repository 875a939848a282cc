-- The manager's move leaves the world sound.
use Rattle.std.proofs.Common.{◌≡◌, ℕ, ◌==◌, ◌<◌, ◌≤◌, false, List, [], ◌∷◌, ◌++◌, None, inl, inr, refl, sym, ap, ◌∙◌, subst, arith, append_assoc, append-nil}
use Rattle.std.proofs.lemmas.Bool.{cases_Bool, ne_eqb}
use Rattle.std.specs.Prelude.{Ok, option_to_list}
use Rattle.rc_base.specs.Cluster.Sending.{requests_in, sent_by, requests_of}
use Rattle.rc_base.specs.Cluster.Tiles.{tile_count}
use Rattle.rc_base.specs.Orders.Book.{IsLegalBook, book_after, with_entry, is_declared}
use Rattle.rc_base.specs.Orders.Book.BookEvent.{Grants as GrantsNext}
use Rattle.rc_base.specs.Orders.Sync.{client_count, sync_lists_of}
use Rattle.rc_base.specs.declared.cluster.ManagerMoved.{ManagerMoved}
use Rattle.rc_base.specs.declared.scene.Scene.{Scene}
use Rattle.rc_base.specs.declared.sync.Entry.{Entry}
use Rattle.rc_base.specs.declared.sync.Grant.{Grant}
use Rattle.rc_base.specs.declared.sync.Grant.TheVariants as grant_item
use Rattle.rc_base.specs.declared.sync.Request.{Request}
use Rattle.rc_base.specs.declared.sync.Request.TheVariants as request
use Rattle.rc_base.specs.declared.sync.SyncLists.{SyncLists}
use Rattle.rc_base.specs.declared.window.Layout.{Layout}
use Rattle.order_model.specs.Laws.{BooksStayLegal}
use Rattle.sync_manager.specs.Progress.{ManagerProgress, IsNextDeed, event_of, progress_after, answer_of, taken_of, sent_to}
use Rattle.sync_manager.specs.Promises.{grants_of, IsManagerRight, StepsKeepManagersRight}
use Rattle.sync_manager.specs.declared.deed.ManagerDeed.{ManagerDeed}
use Rattle.sync_manager.specs.declared.deed.ManagerDeed.TheVariants.{Delivers, FindsFull, Grants, Receives, Loses, FindsNoRequest, Drops, FindsNoneLeft, Finishes}
use Rattle.tile_model.specs.Items.{grants_heard}
use Rattle.scene_lemmas.proofs.Scenes.{scene_client_count}
use Rattle.world_model.specs.Moves.{IsManagerMove}
use Rattle.world_model.specs.Sound.{IsEndOf, IsTileSound, IsParcelLane, IsSound}
use Rattle.world_model.specs.Tiles.{Tile}
use Rattle.world_model.specs.World.{World, Client}
use Rattle.world_model.proofs.LanesGoOn.{moved, takes}
use Rattle.world_model.proofs.JournalsGoOn.{tile_goes_on}

-- ---- what a deed makes of the manager

module _ (syncs : SyncLists) (tiles : ℕ) (d : ManagerProgress) where
  -- it is not short, since the step answered
  pub stays_ample : (deed : ManagerDeed) (answer : ManagerMoved) → answer_of deed ≡ Ok answer → (progress_after syncs d deed).short ≡ d.short
  stays_ample (Delivers tile (grant_item.Entry e)) answer is = refl
  stays_ample (Delivers tile grant_item.NoMore) answer is = refl
  stays_ample (FindsFull tile) answer is = refl
  stays_ample (Grants e) answer is = refl
  stays_ample (Receives client r) answer is = refl
  stays_ample (Loses client place op) answer is = absurd cc
  stays_ample FindsNoRequest answer is = refl
  stays_ample (Drops client r) answer is = refl
  stays_ample FindsNoneLeft answer is = refl
  stays_ample Finishes answer is = refl

  pub stays_legal : BooksStayLegal → (deed : ManagerDeed) → IsNextDeed syncs tiles d deed → IsLegalBook syncs d.book → IsLegalBook syncs (progress_after syncs d deed).book
  stays_legal books (Delivers tile (grant_item.Entry e)) next h = h
  stays_legal books (Delivers tile grant_item.NoMore) next h = h
  stays_legal books (FindsFull tile) next h = h
  stays_legal books (Grants e) next h = subst (λ o. IsLegalBook syncs (with_entry d.book o)) next.2 (books syncs d.book (GrantsNext ∷ []) h)
  stays_legal books (Receives client r) next h = books syncs d.book (event_of syncs client r ∷ []) h
  stays_legal books (Loses client place op) next h = h
  stays_legal books FindsNoRequest next h = h
  stays_legal books (Drops client r) next h = h
  stays_legal books FindsNoneLeft next h = h
  stays_legal books Finishes next h = h

  abbrev GoesOn : ManagerDeed → Type 0
  GoesOn deed = (more : List Entry) × ((progress_after syncs d deed).book.journal ≡ d.book.journal ++ more)

  arrives_on : (client : ℕ) (r : Request) → (book_after syncs d.book (event_of syncs client r)).journal ≡ d.book.journal
  arrives_on client (request.Op place op) = elim (cases_Bool (is_declared syncs op)) [ inl t ↦ rw t refl | inr f ↦ rw f refl ]
  arrives_on client request.End = refl

  pub journal_goes_on : (deed : ManagerDeed) → GoesOn deed
  journal_goes_on (Delivers tile (grant_item.Entry e)) = ([], sym (append-nil d.book.journal))
  journal_goes_on (Delivers tile grant_item.NoMore) = ([], sym (append-nil d.book.journal))
  journal_goes_on (FindsFull tile) = ([], sym (append-nil d.book.journal))
  journal_goes_on (Grants e) = (e ∷ [], refl)
  journal_goes_on (Receives client r) = ([], arrives_on client r ∙ sym (append-nil d.book.journal))
  journal_goes_on (Loses client place op) = ([], sym (append-nil d.book.journal))
  journal_goes_on FindsNoRequest = ([], sym (append-nil d.book.journal))
  journal_goes_on (Drops client r) = ([], sym (append-nil d.book.journal))
  journal_goes_on FindsNoneLeft = ([], sym (append-nil d.book.journal))
  journal_goes_on Finishes = ([], sym (append-nil d.book.journal))

  beyond : (c client : ℕ) → client_count syncs ≤ c → client < client_count syncs → (c == client) ≡ false
  beyond c client le lt = ne_eqb c client (λ e. omega (arith, e, le, lt))

  -- nothing is taken of a client that doesn't exist
  pub none_beyond : (deed : ManagerDeed) → IsNextDeed syncs tiles d deed → (c : ℕ) → client_count syncs ≤ c → taken_of deed c ≡ None
  none_beyond (Delivers tile g) next c le = refl
  none_beyond (FindsFull tile) next c le = refl
  none_beyond (Grants e) next c le = refl
  none_beyond (Receives client r) next c le = rw (beyond c client le next.1) refl
  none_beyond (Loses client place op) next c le = rw (beyond c client le next.1) refl
  none_beyond FindsNoRequest next c le = refl
  none_beyond (Drops client r) next c le = rw (beyond c client le next.1) refl
  none_beyond FindsNoneLeft next c le = refl
  none_beyond Finishes next c le = refl

-- ---- the world

module _ (scene : Scene) (l : Layout) (depth : ℕ) (w v : World) (answer : ManagerMoved) where
  pub manager_keeps : BooksStayLegal → StepsKeepManagersRight → IsSound scene l w → IsManagerMove scene l depth w answer v → IsSound scene l v
  manager_keeps books steps h m =
      let syncs = sync_lists_of scene in
      let d = w.manager in
      let now = progress_after syncs d m.deed in
      let took : ℕ → List Request = λ c. h.manager.took c ++ option_to_list (taken_of m.deed c) in
      let right = steps syncs (tile_count l) h.manager.took (grants_of d) d m.deed h.manager.right m.next in
      let on = journal_goes_on syncs (tile_count l) d m.deed in
      record {
        left = λ c lc. subst (λ (k : Client). IsEndOf (sent_by scene l c) k.left) (sym (m.only.clients c lc)) (h.left c lc);
        parcels = λ c tile lc lt. moved (λ k held a. IsParcelLane scene l c tile k held a) (w.clients c) (v.clients c) (w.parcels c tile) (v.parcels c tile) (w.tiles tile) (v.tiles tile)
            (m.only.clients c lc) (m.only.parcels c tile lc lt) (m.only.tiles tile lt) (h.parcels c tile lc lt);
        grants = λ tile lt.
            ap (λ (e : ManagerProgress). grants_of e tile) m.manager
            ∙ sym (right.tiles_are tile lt).grants
            ∙ ap (λ (xs : List Grant). xs ++ sent_to m.deed tile) (h.grants tile lt)
            ∙ append_assoc (grants_heard (w.tiles tile).progress) (w.grants tile) (sent_to m.deed tile)
            ∙ ap (λ (xs : List Grant). grants_heard (w.tiles tile).progress ++ xs) (sym (m.sent tile lt))
            ∙ ap (λ (a : Tile). grants_heard a.progress ++ v.grants tile) (sym (m.only.tiles tile lt));
        manager = record {
          took = took;
          lanes = λ c lc.
              takes (taken_of m.deed c) (requests_of scene c) (h.manager.took c) (w.requests c) (v.requests c) (requests_in (w.clients c).left) (m.taken c lc) (h.manager.lanes c lc)
              ∙ ap (λ (k : Client). took c ++ (v.requests c ++ requests_in k.left)) (sym (m.only.clients c lc));
          nobody_else = λ c le.
              let low : client_count syncs ≤ c = omega (arith, scene_client_count scene, le) in
              ap (λ (xs : List Request). xs ++ option_to_list (taken_of m.deed c)) (h.manager.nobody_else c le)
              ∙ ap (λ o. [] ++ option_to_list o) (none_beyond syncs (tile_count l) d m.deed m.next c low);
          right = subst (λ (e : ManagerProgress). IsManagerRight syncs (tile_count l) took (grants_of e) e) (sym m.manager) record {
            clients = right.clients;
            tiles_are = λ tile lt. let s = right.tiles_are tile lt in record { grants = refl; within = s.within; whole = s.whole; over = s.over };
          };
          legal = subst (λ (e : ManagerProgress). IsLegalBook syncs e.book) (sym m.manager) (stays_legal syncs (tile_count l) d books m.deed m.next h.manager.legal);
          ample = ap (λ (e : ManagerProgress). e.short) m.manager ∙ stays_ample syncs (tile_count l) d m.deed answer m.answered ∙ h.manager.ample;
        };
        tiles = λ tile lt. subst (λ a. IsTileSound scene l tile v.manager.book.journal a) (sym (m.only.tiles tile lt))
            (tile_goes_on scene l tile d.book.journal on.0 v.manager.book.journal (w.tiles tile) (ap (λ (e : ManagerProgress). e.book.journal) m.manager ∙ on.1) (h.tiles tile lt));
      }

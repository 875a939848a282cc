-- What follows of a tile whose core can't move, whoever else can: it has performed what it knows, and has taken what its lanes held of what it waits for.
use Rattle.std.proofs.Common.{◌≡◌, ℕ, zero, suc, ◌+◌, ◌==◌, ◌||◌, ◌&&◌, eqb-true, ◌<◌, ◌≤◌, not, Bool, true, false, cond, List, [], ◌∷◌, ◌++◌, ◌⊎◌, take, length, map, Some, slice_get, inl, inr, refl, sym, ap, ◌∙◌, subst, arith, append-nil, eq-eqb, true≢false}
use Rattle.std.proofs.Math.Bool.{or-true}
use Rattle.std.proofs.lemmas.Bool.{cases_Bool, cases_lt}
use Rattle.std.specs.List.{list_any}
use Rattle.rc_base.specs.Cluster.Sending.{parcels_to, requests_in, request_of}
use Rattle.rc_base.specs.Cluster.Tiles.{tile_count}
use Rattle.rc_base.specs.Orders.Book.{Book, opened, standing}
use Rattle.rc_base.specs.Orders.Journal.{is_member}
use Rattle.rc_base.specs.Orders.Sync.{sync_lists_of}
use Rattle.rc_base.specs.declared.scene.Scene.{Scene}
use Rattle.rc_base.specs.declared.sync.Entry.{Entry}
use Rattle.rc_base.specs.declared.sync.Grant.{Grant}
use Rattle.rc_base.specs.declared.sync.Grant.TheVariants as grant_item
use Rattle.rc_base.specs.declared.sync.SyncLists.{SyncLists}
use Rattle.rc_base.specs.declared.window.Layout.{Layout}
use Rattle.order_model.specs.Laws.{AreOfClients}
use Rattle.order_model.specs.Standing.{Progress, performed_in, is_over, is_asked}
use Rattle.tile_model.specs.Items.{has_clients}
use Rattle.tile_model.specs.Laws.{MembersAreClients}
use Rattle.tile_model.specs.Short.{listens, NothingIsDue}
use Rattle.tile_model.specs.Short.{asks as takes_from}
use Rattle.scene_lemmas.proofs.Scenes.{scene_client_count}
use Rattle.plain_lemmas.proofs.Lists.{both_empty, item_within}
use Rattle.scene_lemmas.proofs.Sendings.{no_requests}
use Rattle.tile_model.proofs.EntriesHaveClients.{entries_of_clients}
use Rattle.world_model.specs.Flowing.{waits, asks, uses, is_no_more, IsTileCounted, IsFlowing}
use Rattle.world_model.specs.World.{World, client_total}
use Rattle.world_model.proofs.OrderlySequences.{waits_append, asks_append, asked_within, end_is_last}
use Rattle.world_model.proofs.UsedOperations.{entries, closing, uses_append, uses_more, used_up, asks_of_waits, journal_front}

pub record TileRests (scene : Scene) (w : World) (tile : ℕ) : Type 0 where
  pub undue : NothingIsDue (w.tiles tile).short (w.tiles tile).progress
  pub no_grant : listens (w.tiles tile).short (w.tiles tile).progress ≡ true → w.grants tile ≡ []
  pub no_parcel : (client : ℕ) → client < client_total scene → takes_from (w.tiles tile).short (w.tiles tile).progress client ≡ true → w.parcels client tile ≡ []

-- ---- lists

-- nothing comes behind NoMore, whoever hears it
none_behind : (sent : List Entry) (told : Bool) (heard held : List Grant) → entries sent ++ closing told ≡ heard ++ held → list_any is_no_more heard ≡ true → held ≡ []
none_behind [] true [] held h any = absurd (true≢false (sym any))
none_behind [] true (g ∷ heard) held h any = let tail : [] ≡ heard ++ held = cc in (both_empty heard held (sym tail)).1
none_behind [] false [] held h any = absurd (true≢false (sym any))
none_behind [] false (g ∷ heard) held h any = absurd cc
none_behind (x ∷ sent) told [] held h any = absurd (true≢false (sym any))
none_behind (x ∷ sent) told (g ∷ heard) held h any =
    let head : grant_item.Entry x ≡ g = cc in
    let not_it : is_no_more g ≡ false = ap is_no_more (sym head) in
    let tail : entries sent ++ closing told ≡ heard ++ held = cc in
    none_behind sent told heard held tail (sym (ap (λ b. b || list_any is_no_more heard) not_it) ∙ any)

-- where all is heard, NoMore was heard exactly where it was told
told_heard : (sent : List Entry) (told : Bool) → list_any is_no_more (entries sent ++ closing told) ≡ told
told_heard [] true = refl
told_heard [] false = refl
told_heard (x ∷ sent) told = told_heard sent told

-- what was sent was heard, and it is entries alone
heard_all : (sent learnt : List Entry) (told : Bool) → entries sent ++ closing told ≡ entries learnt → (learnt ≡ sent) × (told ≡ false)
heard_all [] [] true h = absurd cc
heard_all [] [] false h = (refl, refl)
heard_all (x ∷ sent) [] told h = absurd cc
heard_all [] (y ∷ learnt) true h = absurd cc
heard_all [] (y ∷ learnt) false h = absurd cc
heard_all (x ∷ sent) (y ∷ learnt) told h =
    let r = heard_all sent learnt told cc in
    let same : y ≡ x = cc in
    (ap (λ e. e ∷ learnt) same ∙ ap (λ es. x ∷ es) r.0, r.1)

-- ---- a flowing world

module _ (scene : Scene) (l : Layout) (w : World) (f : IsFlowing scene l w) where
  abbrev syncs : SyncLists
  syncs = sync_lists_of scene

  abbrev n : ℕ
  n = client_total scene

  abbrev book : Book
  book = w.manager.book

  abbrev p_of : ℕ → Progress
  p_of tile = (w.tiles tile).progress

  -- ---- what a tile that isn't short has learnt

  pub counted : (tile : ℕ) → tile < tile_count l → (w.tiles tile).short ≡ false → IsTileCounted n (λ client. f.took client tile) (f.heard tile) (w.tiles tile)
  counted tile lt ample = (f.tiles tile lt).ample ample

  -- it is a front of the journal
  pub front : (tile : ℕ) → tile < tile_count l → (w.tiles tile).short ≡ false → (more : List Entry) × (book.journal ≡ (p_of tile).learnt ++ more)
  front tile lt ample = journal_front book.journal (p_of tile).learnt (w.manager.delivered tile) (w.manager.told tile) (p_of tile).no_more (w.grants tile)
      (f.grants tile lt ∙ ap (λ (gs : List Grant). gs ++ w.grants tile) (counted tile lt ample).heard_is)

  -- ---- lanes

  -- behind a client's End there is nothing
  closed_bare : (client tile : ℕ) → client < n → tile < tile_count l → (p_of tile).closed client ≡ true
      → (w.parcels client tile ≡ []) × (parcels_to tile (w.clients client).left ≡ [])
  closed_bare client tile lc lt closed =
      end_is_last tile 0 0 (f.sent client) (w.clients client).left (f.took client tile) (w.parcels client tile) ((f.orderly client lc).turns tile lt)
      (f.parcels client tile lc lt) (sym ((f.tiles tile lt).closed client lc) ∙ closed)

  -- ---- operations

  pub arrived_of : (client : ℕ) → asks (f.asked client) ≡ length (book.arrived client) + asks (f.manager.clients client).rest
  arrived_of client =
      let k = f.manager.clients client in
      let e = ap asks k.arrived ∙ asks_append (map request_of (book.arrived client)) k.rest in
      let a = asks_of_waits (book.arrived client) in
      omega (arith, e, a)

  pub sent_asks : (client : ℕ) → client < n → asks (requests_in (f.sent client)) ≡ asks (f.asked client) + asks (w.requests client)
  sent_asks client lc = ap asks (f.requests client lc) ∙ asks_append (f.asked client) (w.requests client)

  pub used : (client : ℕ) → uses n book.journal client + length ((standing syncs book).rest client) ≡ length (book.arrived client)
  used client = subst (λ m. uses m book.journal client + length ((standing syncs book).rest client) ≡ length (book.arrived client)) (scene_client_count scene)
      (used_up syncs (opened syncs book) book.journal client f.legal)

  -- the journal uses no more than was sent
  used_sent : (client : ℕ) → client < n → uses n book.journal client ≤ asks (requests_in (f.sent client))
  used_sent client lc =
      let a = used client in
      let b = arrived_of client in
      let c = sent_asks client lc in
      omega (arith, a, b, c)

  -- and no tile was sent fewer
  told_sent : (client tile : ℕ) → client < n → tile < tile_count l → asks (requests_in (f.sent client)) ≤ waits (f.took client tile) + waits (w.parcels client tile)
  told_sent client tile lc lt =
      let a = asked_within tile 0 0 (f.sent client) (w.clients client).left ((f.orderly client lc).turns tile lt) (omega arith) in
      let b = ap waits (f.parcels client tile lc lt) ∙ waits_append (f.took client tile) (w.parcels client tile) in
      omega (arith, a, b)

  nobody_beyond : AreOfClients syncs (opened syncs book)
  nobody_beyond client le =
      let k = f.manager.clients client in
      let low : n ≤ client = subst (λ m. m ≤ client) (scene_client_count scene) le in
      no_requests (book.arrived client) k.rest (sym k.arrived ∙ f.nobody_else client low)

  -- ---- a tile whose core can't move

  module _ (members : MembersAreClients) (tile : ℕ) (lt : tile < tile_count l) (r : TileRests scene w tile) where
    -- a lane that is asked is empty, and so is that of a client that is closed
    asked_bare : (client : ℕ) → client < n → takes_from (w.tiles tile).short (w.tiles tile).progress client ≡ true → w.parcels client tile ≡ []
    asked_bare client lc asked = r.no_parcel client lc asked

    pub short_bare : (client : ℕ) → client < n → (w.tiles tile).short ≡ true → w.parcels client tile ≡ []
    short_bare client lc short = elim (cases_Bool ((p_of tile).closed client)) [
      | inl t ↦ (closed_bare client tile lc lt t).0
      | inr g ↦ asked_bare client lc (rw short (rw g refl))
    ]

    -- a tile that doesn't hold a client, or is over, has nothing of it in its lane
    pub free_bare : (client : ℕ) → client < n → ((p_of tile).held client ≡ false) ⊎ (is_over (p_of tile) ≡ true) → w.parcels client tile ≡ []
    free_bare client lc free = elim (cases_Bool (w.tiles tile).short) [
      | inl short ↦ short_bare client lc short
      | inr ample ↦ elim (cases_Bool ((p_of tile).closed client)) [
        | inl t ↦ (closed_bare client tile lc lt t).0
        | inr g ↦ asked_bare client lc (rw ample (asked g free))
      ]
    ]
      where
        asked : (p_of tile).closed client ≡ false → ((p_of tile).held client ≡ false) ⊎ (is_over (p_of tile) ≡ true) → is_asked (p_of tile) client ≡ true
        asked g (inl unheld) = rw g (rw unheld refl)
        asked g (inr over) = rw g (ap (λ b. not ((p_of tile).held client) || b) over ∙ or-true (not ((p_of tile).held client)))

    -- ---- a tile that isn't short has performed what it knows

    module _ (ample : (w.tiles tile).short ≡ false) where
      abbrev p : Progress
      p = p_of tile

      used_learnt : (client : ℕ) → uses n p.learnt client ≤ uses n book.journal client
      used_learnt client =
          let e = ap (λ es. uses n es client) (front tile lt ample).1 in
          let a = uses_append n client p.learnt (front tile lt ample).0 in
          omega (arith, e, a)

      not_performed : (e : Entry) → slice_get p.learnt (performed_in p.log) ≡ Some e → performed_in p.log < length p.learnt → ⊥
      not_performed e is less = r.undue ample e (is, held_all)
        where
          get_front : {A : Type 0} (xs ys : List A) (k : ℕ) (x : A) → slice_get xs k ≡ Some x → slice_get (xs ++ ys) k ≡ Some x
          get_front [] ys zero x h = absurd cc
          get_front [] ys (suc k) x h = absurd cc
          get_front (z ∷ xs) ys zero x h = h
          get_front (z ∷ xs) ys (suc k) x h = get_front xs ys k x h

          count : p.count ≡ n
          count = (f.tiles tile lt).count

          of_clients : has_clients p.count e ≡ true
          of_clients = ap (λ m. has_clients m e) (count ∙ sym (scene_client_count scene))
              ∙ entries_of_clients syncs (opened syncs book) book.journal (performed_in p.log) e nobody_beyond f.legal
              (ap (λ js. slice_get js (performed_in p.log)) (front tile lt ample).1 ∙ get_front p.learnt (front tile lt ample).0 (performed_in p.log) e is)

          not_over : is_over p ≡ false
          not_over = elim (cases_Bool (performed_in p.log == length p.learnt)) [
            | inl t ↦ absurd (let same = eqb_is t in omega (arith, same, less))
            | inr g ↦ rw g (and_false p.no_more)
          ]
            where
              eqb_is : (performed_in p.log == length p.learnt) ≡ true → performed_in p.log ≡ length p.learnt
              eqb_is t = eqb-true (performed_in p.log) (length p.learnt) t

              and_false : (b : Bool) → (b && false) ≡ false
              and_false true = refl
              and_false false = refl

          held_all : (client : ℕ) → is_member p.count e client ≡ true → p.held client ≡ true
          held_all client m = elim (cases_Bool (p.held client)) [
            | inl t ↦ t
            | inr unheld ↦ absurd (
                let lc : client < n = subst (λ m. client < m) count (members p.count e of_clients client m) in
                let member : is_member n e client ≡ true = subst (λ k. is_member k e client ≡ true) count m in
                let bare = ap waits (free_bare client lc (inl unheld)) in
                let told : waits (f.took client tile) ≡ uses n (take (performed_in p.log) p.learnt) client + cond {A = ℕ} (p.held client) 1 0 = (counted tile lt ample).held client lc not_over in
                let none : cond {A = ℕ} (p.held client) 1 0 ≡ 0 = ap (λ b. cond {A = ℕ} b 1 0) unheld in
                let a = uses_more n client p.learnt (performed_in p.log) e is member in
                let b = used_learnt client in
                let c = used_sent client lc in
                let d = told_sent client tile lc lt in
                omega (arith, bare, told, none, a, b, c, d))
          ]

      pub all_performed : performed_in p.log ≡ length p.learnt
      all_performed = elim (cases_lt (performed_in p.log) (length p.learnt)) [
        | inr ge ↦ let le = (counted tile lt ample).performed in omega (arith, ge, le)
        | inl less ↦ absurd (let e = item_within p.learnt (performed_in p.log) less in not_performed e.0 e.1 less)
      ]

      pub equal : (performed_in p.log == length p.learnt) ≡ true
      equal = eq-eqb (performed_in p.log) (length p.learnt) all_performed

      -- one that listens has heard all that was sent to it
      pub heard_journal : p.no_more ≡ false → (p.learnt ≡ take (w.manager.delivered tile) book.journal) × (w.manager.told tile ≡ false)
      heard_journal more =
          let listening : listens (w.tiles tile).short (w.tiles tile).progress ≡ true = rw ample (rw more equal) in
          heard_all (take (w.manager.delivered tile) book.journal) p.learnt (w.manager.told tile)
          (f.grants tile lt ∙ ap (λ gs. f.heard tile ++ gs) (r.no_grant listening) ∙ append-nil (f.heard tile) ∙ (counted tile lt ample).heard_is
          ∙ ap (λ b. entries p.learnt ++ closing b) more ∙ append-nil (entries p.learnt))

    -- ---- grant lanes

    -- a tile hears all, or has heard that no more comes
    pub grants_bare : w.grants tile ≡ []
    grants_bare = elim (cases_Bool (p_of tile).no_more) [
      | inl t ↦ none_behind (take (w.manager.delivered tile) book.journal) (w.manager.told tile) (f.heard tile) (w.grants tile) (f.grants tile lt)
          (sym (f.tiles tile lt).no_more ∙ t)
      | inr more ↦ r.no_grant (elim (cases_Bool (w.tiles tile).short) [
        | inl short ↦ rw short (rw more refl)
        | inr ample ↦ rw ample (rw more (equal ample))
      ])
    ]

    -- so it has heard that no more comes where it was told
    pub hears_told : (p_of tile).no_more ≡ w.manager.told tile
    hears_told =
        (f.tiles tile lt).no_more
        ∙ ap (λ (gs : List Grant). list_any is_no_more gs) (sym (append-nil (f.heard tile)) ∙ ap (λ (gs : List Grant). f.heard tile ++ gs) (sym grants_bare) ∙ sym (f.grants tile lt))
        ∙ told_heard (take (w.manager.delivered tile) book.journal) (w.manager.told tile)

    -- and then it is over
    pub over : w.manager.told tile ≡ true → (w.tiles tile).short ≡ false → is_over (p_of tile) ≡ true
    over told ample = let seen : (p_of tile).no_more ≡ true = hears_told ∙ told in rw seen (equal ample)

    pub told_bare : (client : ℕ) → client < n → w.manager.told tile ≡ true → w.parcels client tile ≡ []
    told_bare client lc told = elim (cases_Bool (w.tiles tile).short) [
      | inl short ↦ short_bare client lc short
      | inr ample ↦ free_bare client lc (inr (over told ample))
    ]

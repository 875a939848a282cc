-- What the manager does next is determined by how far it is and by what its lanes hold.
use Rattle.std.proofs.Common.{◌≡◌, ℕ, ◌==◌, ◌<◌, ◌≤◌, Bool, false, List, [], ◌∷◌, ◌++◌, ◌⊎◌, length, Some, slice_get, inl, inr, refl, sym, ap, ◌∙◌, subst, arith, length-append, eqb-true, eq-eqb, true≢false}
use Rattle.std.proofs.lemmas.Bool.{cases_Bool, cases_lt}
use Rattle.std.specs.Prelude.{Ok, MatchOption}
use Rattle.rc_base.specs.Cluster.Lanes.{IsEarlier}
use Rattle.rc_base.specs.Cluster.Tiles.{tile_count}
use Rattle.rc_base.specs.Orders.Book.{standing}
use Rattle.rc_base.specs.Orders.Grant.{grant}
use Rattle.rc_base.specs.Orders.Sync.{client_count, sync_lists_of}
use Rattle.rc_base.specs.declared.cluster.ManagerMoved.{ManagerMoved}
use Rattle.rc_base.specs.declared.scene.Scene.{Scene}
use Rattle.rc_base.specs.declared.sync.Entry.{Entry}
use Rattle.rc_base.specs.declared.sync.Grant.{Grant}
use Rattle.rc_base.specs.declared.sync.Grant.TheVariants as grant_item
use Rattle.rc_base.specs.declared.sync.Request.{Request}
use Rattle.rc_base.specs.declared.sync.SyncLists.{SyncLists}
use Rattle.rc_base.specs.declared.sync.SyncOp.{SyncOp}
use Rattle.rc_base.specs.declared.window.Layout.{Layout}
use Rattle.order_model.specs.Laws.{GrantsAreLawful}
use Rattle.sync_manager.specs.Progress.{ManagerProgress, IsLowest, AllDelivered, lacks_entry, lacks_end, NoMoreComes, IsGrantDue, IsReceiving, IsDraining, IsNextDeed, progress_after, answer_of, taken_of, sent_to, IsFoundFull, IsFoundEmpty}
use Rattle.sync_manager.specs.declared.deed.ManagerDeed.{ManagerDeed}
use Rattle.sync_manager.specs.declared.deed.ManagerDeed.TheVariants.{Delivers, FindsFull, Grants, Receives, Loses, FindsNoRequest, Drops, FindsNoneLeft, Finishes}
use Rattle.scene_lemmas.proofs.Scenes.{scene_client_count}
use Rattle.plain_lemmas.proofs.Numbers.{equal_to_itself}
use Rattle.world_model.proofs.LanesGoOn.{same_rest, is_first}
use Rattle.world_model.specs.Laws.{AreAlike}
use Rattle.world_model.specs.Moves.{IsManagerMove}
use Rattle.world_model.specs.Tiles.{Tile}
use Rattle.world_model.specs.World.{World, Client, client_total, LanesFit}

-- of two clients one comes earlier in the rotation
pub one_earlier : (start a b : ℕ) → (a == b) ≡ false → IsEarlier start a b ⊎ IsEarlier start b a
one_earlier start a b ne = elim (cases_lt a b) [
  | inl lt ↦ elim (cases_lt a start) [
    | inl early ↦ elim (cases_lt b start) [ inl both ↦ inr (inr (both, inr lt)) | inr late ↦ inl (inr (early, inl late)) ]
    | inr late ↦ inr (inl (late, lt))
  ]
  | inr ge ↦
      let gt : b < a = elim (cases_lt b a) [ inl lt ↦ lt | inr le ↦ absurd (true≢false (sym (eq-eqb a b (omega (arith, ge, le))) ∙ ne)) ] in
      elim (cases_lt b start) [
        | inl early ↦ elim (cases_lt a start) [ inl both ↦ inl (inr (both, inr gt)) | inr late ↦ inr (inr (early, inl late)) ]
        | inr late ↦ inl (inl (late, gt))
      ]
]

-- ---- which task it is

-- to append a grant for a tile, to grant an entry, to take a request that may arrive, or to drop requests
data Kind : Type 0 where
  Delivering : (tile : ℕ) (g : Grant) → Kind
  Granting : (e : Entry) → Kind
  Receiving : Kind
  Draining : Kind

module _ (syncs : SyncLists) (tiles : ℕ) (d : ManagerProgress) where
  abbrev IsKind : Kind → Type 0
  IsKind (Delivering tile g) = IsGrantDue syncs tiles d tile g
  IsKind (Granting e) = AllDelivered tiles d × (d.short ≡ false) × (grant syncs (standing syncs d.book) ≡ Some e)
  IsKind Receiving = IsReceiving syncs tiles d
  IsKind Draining = IsDraining syncs tiles d

  same_lowest : (passes : ℕ → Bool) (n a b : ℕ) → IsLowest passes n a → IsLowest passes n b → b ≡ a
  same_lowest passes n a b x y = elim (cases_lt a b) [
    | inl lt ↦ absurd (true≢false (sym x.here ∙ y.lower a lt))
    | inr ge ↦ elim (cases_lt b a) [ inl lt ↦ absurd (true≢false (sym y.here ∙ x.lower b lt)) | inr le ↦ omega (arith, ge, le) ]
  ]

  -- a tile lacks an entry, or none does
  not_all : (tile : ℕ) → IsLowest (lacks_entry d) tiles tile → AllDelivered tiles d → ⊥
  not_all tile x all = true≢false (sym x.here ∙ all tile x.low)

  not_told : (tile : ℕ) → IsLowest (lacks_end d) tiles tile → IsDraining syncs tiles d → ⊥
  not_told tile x drains = true≢false (sym x.here ∙ drains.told tile x.low)

  -- an entry can be granted, or no more comes
  not_over : GrantsAreLawful → (e : Entry) → d.short ≡ false → grant syncs (standing syncs d.book) ≡ Some e → NoMoreComes syncs d → ⊥
  not_over lawful e ample is (inl short) = true≢false (sym short ∙ ample)
  not_over lawful e ample is (inr over) = over.over e (lawful syncs (standing syncs d.book) e is)

  goes_on : IsReceiving syncs tiles d → NoMoreComes syncs d → ⊥
  goes_on r (inl short) = true≢false (sym short ∙ r.ample)
  goes_on r (inr over) = r.goes_on over

  one_kind : GrantsAreLawful → (a b : Kind) → IsKind a → IsKind b → b ≡ a
  one_kind lawful (Delivering t (grant_item.Entry e)) (Delivering u (grant_item.Entry f)) x y =
      let same : u ≡ t = same_lowest (lacks_entry d) tiles t u x.0 y.0 in
      let here : slice_get d.book.journal (d.delivered t) ≡ Some f = subst (λ k. slice_get d.book.journal (d.delivered k) ≡ Some f) same y.1 in
      let entry : f ≡ e = some_same f e (sym here ∙ x.1) in
      ap (λ k. Delivering k (grant_item.Entry f)) same ∙ ap (λ k. Delivering t (grant_item.Entry k)) entry
    where
      some_same : (f e : Entry) → Some f ≡ Some e → f ≡ e
      some_same f e h = cc
  one_kind lawful (Delivering t (grant_item.Entry e)) (Delivering u grant_item.NoMore) x y = absurd (not_all t x.0 y.0)
  one_kind lawful (Delivering t (grant_item.Entry e)) (Granting f) x y = absurd (not_all t x.0 y.0)
  one_kind lawful (Delivering t (grant_item.Entry e)) Receiving x y = absurd (not_all t x.0 y.delivered)
  one_kind lawful (Delivering t (grant_item.Entry e)) Draining x y = absurd (not_all t x.0 y.delivered)
  one_kind lawful (Delivering t grant_item.NoMore) (Delivering u (grant_item.Entry f)) x y = absurd (not_all u y.0 x.0)
  one_kind lawful (Delivering t grant_item.NoMore) (Delivering u grant_item.NoMore) x y = ap (λ k. Delivering k grant_item.NoMore) (same_lowest (lacks_end d) tiles t u x.2 y.2)
  one_kind lawful (Delivering t grant_item.NoMore) (Granting f) x y = absurd (not_over lawful f y.1 y.2 x.1)
  one_kind lawful (Delivering t grant_item.NoMore) Receiving x y = absurd (goes_on y x.1)
  one_kind lawful (Delivering t grant_item.NoMore) Draining x y = absurd (not_told t x.2 y)
  one_kind lawful (Granting e) (Delivering u (grant_item.Entry f)) x y = absurd (not_all u y.0 x.0)
  one_kind lawful (Granting e) (Delivering u grant_item.NoMore) x y = absurd (not_over lawful e x.1 x.2 y.1)
  one_kind lawful (Granting e) (Granting f) x y = ap Granting (some_same f e (sym y.2 ∙ x.2))
    where
      some_same : (f e : Entry) → Some f ≡ Some e → f ≡ e
      some_same f e h = cc
  one_kind lawful (Granting e) Receiving x y = absurd (y.nothing e (lawful syncs (standing syncs d.book) e x.2))
  one_kind lawful (Granting e) Draining x y = absurd (not_over lawful e x.1 x.2 y.no_more)
  one_kind lawful Receiving (Delivering u (grant_item.Entry f)) x y = absurd (not_all u y.0 x.delivered)
  one_kind lawful Receiving (Delivering u grant_item.NoMore) x y = absurd (goes_on x y.1)
  one_kind lawful Receiving (Granting f) x y = absurd (x.nothing f (lawful syncs (standing syncs d.book) f y.2))
  one_kind lawful Receiving Receiving x y = refl
  one_kind lawful Receiving Draining x y = absurd (goes_on x y.no_more)
  one_kind lawful Draining (Delivering u (grant_item.Entry f)) x y = absurd (not_all u y.0 x.delivered)
  one_kind lawful Draining (Delivering u grant_item.NoMore) x y = absurd (not_told u y.2 x)
  one_kind lawful Draining (Granting f) x y = absurd (not_over lawful f y.1 y.2 x.no_more)
  one_kind lawful Draining Receiving x y = absurd (goes_on y x.no_more)
  one_kind lawful Draining Draining x y = refl

  -- ---- the deed, by its task

  abbrev kind_of : (deed : ManagerDeed) → IsNextDeed syncs tiles d deed → Kind
  kind_of (Delivers t g) n = Delivering t g
  kind_of (FindsFull t) n = Delivering t n.0
  kind_of (Grants e) n = Granting e
  kind_of (Receives c r) n = Receiving
  kind_of (Loses c place op) n = Receiving
  kind_of FindsNoRequest n = Receiving
  kind_of (Drops c r) n = Draining
  kind_of FindsNoneLeft n = Draining
  kind_of Finishes n = Draining

  is_kind : (deed : ManagerDeed) (n : IsNextDeed syncs tiles d deed) → IsKind (kind_of deed n)
  is_kind (Delivers t g) n = n
  is_kind (FindsFull t) n = n.1
  is_kind (Grants e) n = n
  is_kind (Receives c r) n = n.0
  is_kind (Loses c place op) n = n.0
  is_kind FindsNoRequest n = n
  is_kind (Drops c r) n = n.0
  is_kind FindsNoneLeft n = n.0
  is_kind Finishes n = n.0

  due_low : (t : ℕ) (g : Grant) → IsGrantDue syncs tiles d t g → t < tiles
  due_low t (grant_item.Entry e) x = x.0.low
  due_low t grant_item.NoMore x = x.2.low

  -- ---- two deeds over the same lanes

  module _ (clients depth : ℕ) (exist : client_count syncs ≡ clients) (requests : ℕ → List Request) (grants : ℕ → List Grant) where
    -- what was taken was first in its lane, each lane that was tried before is empty, and there was room for what was appended
    pub record IsDone (deed : ManagerDeed) : Type 0 where
      pub ample : (c place : ℕ) (op : SyncOp) → deed ≡ Loses c place op → ⊥
      pub first : (c : ℕ) → c < clients → MatchOption (taken_of deed c) (Unit {0}) (λ r. (rest : List Request) × (requests c ≡ r ∷ rest))
      pub empty : (c : ℕ) → c < clients → IsFoundEmpty syncs d deed c → requests c ≡ []
      pub room : (t : ℕ) → t < tiles → (sent_to deed t ≡ []) ⊎ (length (grants t) < depth)
      pub full : (t : ℕ) → t < tiles → IsFoundFull deed t → length (grants t) ≡ depth

    received : (c : ℕ) (r : Request) (n : IsNextDeed syncs tiles d (Receives c r)) → IsDone (Receives c r) → (rest : List Request) × (requests c ≡ r ∷ rest)
    received c r n x = let low = subst (λ k. c < k) exist n.1 in rw (equal_to_itself c) at (x.first c low)

    dropped : (c : ℕ) (r : Request) (n : IsNextDeed syncs tiles d (Drops c r)) → IsDone (Drops c r) → (rest : List Request) × (requests c ≡ r ∷ rest)
    dropped c r n x = let low = subst (λ k. c < k) exist n.1 in rw (equal_to_itself c) at (x.first c low)

    not_bare : (c : ℕ) (r : Request) (rest : List Request) → requests c ≡ r ∷ rest → requests c ≡ [] → ⊥
    not_bare c r rest h e = let no : r ∷ rest ≡ [] = sym h ∙ e in cc

    same_head : (r q : Request) (rs qs : List Request) → r ∷ rs ≡ q ∷ qs → q ≡ r
    same_head r q rs qs e = cc

    both_receive : (c k : ℕ) (r q : Request) (n : IsNextDeed syncs tiles d (Receives c r)) (m : IsNextDeed syncs tiles d (Receives k q)) → IsDone (Receives c r) → IsDone (Receives k q)
        → Receives k q ≡ Receives c r
    both_receive c k r q n m x y = elim (cases_Bool (k == c)) [
      | inl t ↦
          let same : k ≡ c = eqb-true k c t in
          let a = received c r n x in
          let b = received k q m y in
          let head : q ≡ r = same_head r q a.0 b.0 (sym a.1 ∙ sym (ap requests same) ∙ b.1) in
          ap (λ i. Receives i q) same ∙ ap (λ i. Receives c i) head
      | inr f ↦ absurd (elim (one_earlier d.next k c f) [
        | inl e ↦ not_bare c r (received c r n x).0 (received c r n x).1 (y.empty c (subst (λ i. c < i) exist n.1) (e, n.2))
        | inr e ↦ not_bare k q (received k q m y).0 (received k q m y).1 (x.empty k (subst (λ i. k < i) exist m.1) (e, m.2))
      ])
    ]

    both_drop : (c k : ℕ) (r q : Request) (n : IsNextDeed syncs tiles d (Drops c r)) (m : IsNextDeed syncs tiles d (Drops k q)) → IsDone (Drops c r) → IsDone (Drops k q)
        → Drops k q ≡ Drops c r
    both_drop c k r q n m x y = elim (cases_Bool (k == c)) [
      | inl t ↦
          let same : k ≡ c = eqb-true k c t in
          let a = dropped c r n x in
          let b = dropped k q m y in
          let head : q ≡ r = same_head r q a.0 b.0 (sym a.1 ∙ sym (ap requests same) ∙ b.1) in
          ap (λ i. Drops i q) same ∙ ap (λ i. Drops c i) head
      | inr f ↦ absurd (elim (one_earlier d.next k c f) [
        | inl e ↦ not_bare c r (dropped c r n x).0 (dropped c r n x).1 (y.empty c (subst (λ i. c < i) exist n.1) (e, n.2))
        | inr e ↦ not_bare k q (dropped k q m y).0 (dropped k q m y).1 (x.empty k (subst (λ i. k < i) exist m.1) (e, m.2))
      ])
    ]

    no_request : (c : ℕ) (r : Request) (n : IsNextDeed syncs tiles d (Receives c r)) → IsDone (Receives c r) → IsDone FindsNoRequest → ⊥
    no_request c r n x y = not_bare c r (received c r n x).0 (received c r n x).1 (y.empty c (subst (λ i. c < i) exist n.1) n.2)

    none_left : (c : ℕ) (r : Request) (n : IsNextDeed syncs tiles d (Drops c r)) → IsDone (Drops c r) → IsDone FindsNoneLeft → ⊥
    none_left c r n x y = not_bare c r (dropped c r n x).0 (dropped c r n x).1 (y.empty c (subst (λ i. c < i) exist n.1) n.2)

    no_room : (t : ℕ) (g : Grant) → t < tiles → IsDone (Delivers t g) → IsDone (FindsFull t) → ⊥
    no_room t g lt x y = by (x.room t lt)
      where
        by : (sent_to (Delivers t g) t ≡ []) ⊎ (length (grants t) < depth) → ⊥
        by (inl none) = let no : g ∷ [] ≡ [] = rw (equal_to_itself t) at none in cc
        by (inr less) = let f = y.full t lt refl in omega (arith, less, f)

    delivering : (t u : ℕ) (g h : Grant) → Delivering u h ≡ Delivering t g → (u ≡ t) × (h ≡ g)
    delivering t u g h e = (cc, cc)

    one_deed : (a b : ManagerDeed) (n : IsNextDeed syncs tiles d a) (m : IsNextDeed syncs tiles d b) → kind_of b m ≡ kind_of a n → IsDone a → IsDone b → b ≡ a
    one_deed (Delivers t g) (Delivers u h) n m e x y = let s = delivering t u g h e in ap (λ k. Delivers k h) s.0 ∙ ap (λ k. Delivers t k) s.1
    one_deed (Delivers t g) (FindsFull u) n m e x y =
        let s = delivering t u g m.0 e in absurd (no_room t g (due_low t g n) x (subst (λ k. IsDone (FindsFull k)) s.0 y))
    one_deed (FindsFull t) (Delivers u h) n m e x y =
        let s = delivering t u n.0 h e in absurd (no_room u h (due_low u h m) y (subst (λ k. IsDone (FindsFull k)) (sym s.0) x))
    one_deed (FindsFull t) (FindsFull u) n m e x y = ap FindsFull (delivering t u n.0 m.0 e).0
    one_deed (Grants i) (Grants j) n m e x y = let same : j ≡ i = cc in ap Grants same
    one_deed (Loses c place op) b n m e x y = absurd (x.ample c place op refl)
    one_deed a (Loses c place op) n m e x y = absurd (y.ample c place op refl)
    one_deed (Receives c r) (Receives k q) n m e x y = both_receive c k r q n m x y
    one_deed (Receives c r) FindsNoRequest n m e x y = absurd (no_request c r n x y)
    one_deed FindsNoRequest (Receives c r) n m e x y = absurd (no_request c r m y x)
    one_deed FindsNoRequest FindsNoRequest n m e x y = refl
    one_deed (Drops c r) (Drops k q) n m e x y = both_drop c k r q n m x y
    one_deed (Drops c r) FindsNoneLeft n m e x y = absurd (none_left c r n x y)
    one_deed (Drops c r) Finishes n m e x y = absurd (true≢false (sym (m.1 c n.1) ∙ n.2))
    one_deed FindsNoneLeft (Drops c r) n m e x y = absurd (none_left c r m y x)
    one_deed FindsNoneLeft FindsNoneLeft n m e x y = refl
    one_deed FindsNoneLeft Finishes n m e x y = absurd (true≢false (sym (m.1 n.1.0 n.1.1) ∙ n.1.2))
    one_deed Finishes (Drops c r) n m e x y = absurd (true≢false (sym (n.1 c m.1) ∙ m.2))
    one_deed Finishes FindsNoneLeft n m e x y = absurd (true≢false (sym (n.1 m.1.0 m.1.1) ∙ m.1.2))
    one_deed Finishes Finishes n m e x y = refl
    one_deed a b n m e x y = absurd cc

-- ---- two moves of alike managers

module _ (scene : Scene) (l : Layout) (depth : ℕ) where
  -- what is known of a move, by what the lanes of an alike world hold
  done_by : (w v : World) (answer : ManagerMoved) (requests : ℕ → List Request) (grants : ℕ → List Grant) → ((c : ℕ) → c < client_total scene → requests c ≡ w.requests c)
      → ((t : ℕ) → t < tile_count l → grants t ≡ w.grants t) → (m : IsManagerMove scene l depth w answer v) → LanesFit scene l depth v
      → IsDone (sync_lists_of scene) (tile_count l) w.manager (client_total scene) depth (scene_client_count scene) requests grants m.deed
  done_by w v answer requests grants rs gs m fit = record {
    ample = λ c place op is. absurd (let no = ap answer_of (sym is) ∙ m.answered in cc);
    first = λ c lc. is_first (taken_of m.deed c) (requests c) (w.requests c) (v.requests c) (rs c lc) (m.taken c lc);
    empty = λ c lc found. rs c lc ∙ m.empty c lc found;
    room = λ t lt. room (sent_to m.deed t) (grants t) (w.grants t) (v.grants t) (gs t lt) (m.sent t lt) (fit.grants t lt);
    full = λ t lt found. ap length (gs t lt) ∙ m.full t lt found;
  }
    where
      room : (more here held now : List Grant) → here ≡ held → now ≡ held ++ more → length now ≤ depth → (more ≡ []) ⊎ (length here < depth)
      room [] here held now e is le = inl refl
      room (g ∷ more) here held now e is le =
          inr (let a = ap length is in let b = length-append held (g ∷ more) in let c = ap length e in omega (arith, a, b, c, le))

  same_deed : GrantsAreLawful → (w v w' v' : World) (answer answer' : ManagerMoved) → AreAlike scene l w w' → (m : IsManagerMove scene l depth w answer v) → LanesFit scene l depth v
      → (m' : IsManagerMove scene l depth w' answer' v') → LanesFit scene l depth v' → m'.deed ≡ m.deed
  same_deed lawful w v w' v' answer answer' h m fit m' fit' =
      let syncs = sync_lists_of scene in
      let next : IsNextDeed syncs (tile_count l) w.manager m'.deed = subst (λ (d : ManagerProgress). IsNextDeed syncs (tile_count l) d m'.deed) h.manager m'.next in
      let done = done_by w v answer w.requests w.grants (λ c lc. refl) (λ t lt. refl) m fit in
      let done' = subst (λ (d : ManagerProgress). IsDone syncs (tile_count l) d (client_total scene) depth (scene_client_count scene) w.requests w.grants m'.deed) h.manager
      (done_by w' v' answer' w.requests w.grants (λ c lc. sym (h.requests c lc)) (λ t lt. sym (h.grants t lt)) m' fit') in
      one_deed syncs (tile_count l) w.manager (client_total scene) depth (scene_client_count scene) w.requests w.grants m.deed m'.deed m.next next
      (one_kind syncs (tile_count l) w.manager lawful (kind_of syncs (tile_count l) w.manager m.deed m.next) (kind_of syncs (tile_count l) w.manager m'.deed next)
      (is_kind syncs (tile_count l) w.manager m.deed m.next) (is_kind syncs (tile_count l) w.manager m'.deed next))
      done done'

  same_answer : (deed deed' : ManagerDeed) (answer answer' : ManagerMoved) → deed' ≡ deed → answer_of deed ≡ Ok answer → answer_of deed' ≡ Ok answer' → answer' ≡ answer
  same_answer deed deed' answer answer' e is is' = let both = sym is' ∙ ap answer_of e ∙ is in cc

  pub manager_alike : GrantsAreLawful → (w v w' v' : World) (answer answer' : ManagerMoved) → AreAlike scene l w w' → (m : IsManagerMove scene l depth w answer v) → LanesFit scene l depth v
      → (m' : IsManagerMove scene l depth w' answer' v') → LanesFit scene l depth v' → (answer' ≡ answer) × AreAlike scene l v v'
  manager_alike lawful w v w' v' answer answer' h m fit m' fit' =
      let syncs = sync_lists_of scene in
      let same = same_deed lawful w v w' v' answer answer' h m fit m' fit' in (
        same_answer m.deed m'.deed answer answer' same m.answered m'.answered,
        record {
          left = λ c lc. ap (λ (k : Client). k.left) (m'.only.clients c lc) ∙ h.left c lc ∙ sym (ap (λ (k : Client). k.left) (m.only.clients c lc));
          manager = m'.manager ∙ ap (λ d. progress_after syncs d m'.deed) h.manager ∙ ap (λ deed. progress_after syncs w.manager deed) same ∙ sym m.manager;
          progress = λ t lt. ap (λ (a : Tile). a.progress) (m'.only.tiles t lt) ∙ h.progress t lt ∙ sym (ap (λ (a : Tile). a.progress) (m.only.tiles t lt));
          next = λ t lt. ap (λ (a : Tile). a.next) (m'.only.tiles t lt) ∙ h.next t lt ∙ sym (ap (λ (a : Tile). a.next) (m.only.tiles t lt));
          parcels = λ c t lc lt. m'.only.parcels c t lc lt ∙ h.parcels c t lc lt ∙ sym (m.only.parcels c t lc lt);
          requests = λ c lc. same_rest (taken_of m.deed c) (w.requests c) (w'.requests c) (v.requests c) (v'.requests c) (h.requests c lc) (m.taken c lc)
              (subst (λ deed. MatchOption (taken_of deed c) (v'.requests c ≡ w'.requests c) (λ r. w'.requests c ≡ r ∷ v'.requests c)) same (m'.taken c lc));
          grants = λ t lt. m'.sent t lt ∙ ap (λ gs. gs ++ sent_to m'.deed t) (h.grants t lt) ∙ ap (λ deed. w.grants t ++ sent_to deed t) same ∙ sym (m.sent t lt);
        },
      )

-- What a tile does next is determined by how far it is and by what its lanes hold.
use Rattle.std.proofs.Common.{◌≡◌, ℕ, ◌==◌, ◌<◌, false, List, [], ◌∷◌, Some, inl, inr, refl, sym, ap, ◌∙◌, subst, eqb-true}
use Rattle.std.proofs.lemmas.Bool.{cases_Bool}
use Rattle.std.specs.Prelude.{MatchOption}
use Rattle.rc_base.specs.Cluster.Lanes.{IsEarlier}
use Rattle.rc_base.specs.Cluster.Tiles.{tile_count}
use Rattle.rc_base.specs.Orders.Sync.{sync_lists_of}
use Rattle.rc_base.specs.declared.scene.Scene.{Scene}
use Rattle.rc_base.specs.declared.state.Parcel.{Parcel}
use Rattle.rc_base.specs.declared.sync.Entry.{Entry}
use Rattle.rc_base.specs.declared.sync.Grant.{Grant}
use Rattle.rc_base.specs.declared.sync.Grant.TheVariants as grant_item
use Rattle.rc_base.specs.declared.window.Layout.{Layout}
use Rattle.order_model.specs.Standing.{Progress, IsUnderWay, is_asked}
use Rattle.order_model.specs.Sent.{jobs_of}
use Rattle.tile_model.specs.Items.{Item, after_item, IsAwaited, parcel_taken, grant_taken}
use Rattle.tile_model.specs.Items.Item.{Nothing, Due, Granted, NoMore, Sent}
use Rattle.tile_model.specs.Short.{NothingIsDue}
use Rattle.scene_lemmas.proofs.Scenes.{scene_client_count}
use Rattle.plain_lemmas.proofs.Numbers.{equal_to_itself, at_one_or_other}
use Rattle.world_model.specs.Laws.{AreAlike}
use Rattle.world_model.specs.Moves.{IsTileMove}
use Rattle.world_model.specs.Sound.{IsSound}
use Rattle.world_model.specs.declared.moves.TileAnswer.{TileAnswer}
use Rattle.world_model.specs.Tiles.{Tile, next_after, IsUndue, FindsNoGrant, FindsNoParcel, IsTileAnswer}
use Rattle.world_model.specs.World.{World, Client, client_total}
use Rattle.world_model.proofs.LanesGoOn.{same_rest, is_first}
use Rattle.world_model.proofs.ManagersDoOneThing.{one_earlier}
use Rattle.world_model.proofs.WhatHasArrived.{goes_on}

-- ---- two items over the same lanes

module _ (a : Tile) (clients : ℕ) (parcels : ℕ → List Parcel) (grants : List Grant)
    (exist : (c : ℕ) → c < a.progress.count → c < clients) where
  -- what was taken was first in its lane, and each lane that was tried before is empty
  pub record IsDone (item : Item) : Type 0 where
    pub awaited : IsAwaited a.progress item
    pub undue : IsUndue a.progress item
    pub parcel : (c : ℕ) → c < clients → MatchOption (parcel_taken item c) (Unit {0}) (λ x. (rest : List Parcel) × (parcels c ≡ x ∷ rest))
    pub no_parcel : (c : ℕ) → c < clients → FindsNoParcel a item c → parcels c ≡ []
    pub grant : MatchOption (grant_taken item) (Unit {0}) (λ g. (rest : List Grant) × (grants ≡ g ∷ rest))
    pub no_grant : FindsNoGrant a.progress item → grants ≡ []

  sent : (c : ℕ) (x : Parcel) → IsDone (Sent c x) → (rest : List Parcel) × (parcels c ≡ x ∷ rest)
  sent c x i = rw (equal_to_itself c) at (i.parcel c (exist c i.awaited.0))

  not_bare : {A : Type 0} (x : A) (rest held : List A) → held ≡ x ∷ rest → held ≡ [] → ⊥
  not_bare x rest held h e = let no : x ∷ rest ≡ [] = sym h ∙ e in cc

  no_parcel_left : (c : ℕ) (x : Parcel) → IsDone (Sent c x) → parcels c ≡ [] → ⊥
  no_parcel_left c x i e = not_bare x (sent c x i).0 (parcels c) (sent c x i).1 e

  -- an entry that is due comes first
  due_first : (e : Entry) → IsDone (Due e) → NothingIsDue false a.progress → ⊥
  due_first e i undue = undue refl e i.awaited

  same_entry : (e f : Entry) → Some f ≡ Some e → f ≡ e
  same_entry e f h = cc

  same_grant : (e f : Entry) (es fs : List Grant) → grant_item.Entry f ∷ fs ≡ grant_item.Entry e ∷ es → f ≡ e
  same_grant e f es fs h = cc

  not_no_more : (e : Entry) (es fs : List Grant) → grant_item.Entry e ∷ es ≡ grant_item.NoMore ∷ fs → ⊥
  not_no_more e es fs h = cc

  same_head : (x y : Parcel) (xs ys : List Parcel) → x ∷ xs ≡ y ∷ ys → y ≡ x
  same_head x y xs ys h = cc

  both_sent : (c k : ℕ) (x y : Parcel) → IsDone (Sent c x) → IsDone (Sent k y) → Sent k y ≡ Sent c x
  both_sent c k x y i j = elim (cases_Bool (k == c)) [
    | inl t ↦
        let same : k ≡ c = eqb-true k c t in
        let head : y ≡ x = same_head x y (sent c x i).0 (sent k y j).0 (sym (sent c x i).1 ∙ sym (ap parcels same) ∙ (sent k y j).1) in
        ap (λ n. Sent n y) same ∙ ap (λ p. Sent c p) head
    | inr f ↦ absurd (elim (one_earlier a.next k c f) [
      | inl e ↦ no_parcel_left c x i (j.no_parcel c (exist c i.awaited.0) (e, i.awaited.1))
      | inr e ↦ no_parcel_left k y j (i.no_parcel k (exist k j.awaited.0) (e, j.awaited.1))
    ])
  ]

  one_item : (x y : Item) → IsDone x → IsDone y → y ≡ x
  one_item Nothing Nothing i j = refl
  one_item Nothing (Due f) i j = absurd (due_first f j i.undue)
  one_item Nothing (Granted f) i j = absurd (not_bare (grant_item.Entry f) j.grant.0 grants j.grant.1 (i.no_grant j.awaited))
  one_item Nothing NoMore i j = absurd (not_bare grant_item.NoMore j.grant.0 grants j.grant.1 (i.no_grant j.awaited))
  one_item Nothing (Sent k y) i j = absurd (no_parcel_left k y j (i.no_parcel k (exist k j.awaited.0) j.awaited.1))
  one_item (Due e) Nothing i j = absurd (due_first e i j.undue)
  one_item (Due e) (Due f) i j = ap Due (same_entry e f (sym j.awaited.0 ∙ i.awaited.0))
  one_item (Due e) (Granted f) i j = absurd (due_first e i j.undue)
  one_item (Due e) NoMore i j = absurd (due_first e i j.undue)
  one_item (Due e) (Sent k y) i j = absurd (due_first e i j.undue)
  one_item (Granted e) Nothing i j = absurd (not_bare (grant_item.Entry e) i.grant.0 grants i.grant.1 (j.no_grant i.awaited))
  one_item (Granted e) (Due f) i j = absurd (due_first f j i.undue)
  one_item (Granted e) (Granted f) i j = ap Granted (same_grant e f i.grant.0 j.grant.0 (sym j.grant.1 ∙ i.grant.1))
  one_item (Granted e) NoMore i j = absurd (not_no_more e i.grant.0 j.grant.0 (sym i.grant.1 ∙ j.grant.1))
  one_item (Granted e) (Sent k y) i j = absurd (not_bare (grant_item.Entry e) i.grant.0 grants i.grant.1 (j.no_grant i.awaited))
  one_item NoMore Nothing i j = absurd (not_bare grant_item.NoMore i.grant.0 grants i.grant.1 (j.no_grant i.awaited))
  one_item NoMore (Due f) i j = absurd (due_first f j i.undue)
  one_item NoMore (Granted f) i j = absurd (not_no_more f j.grant.0 i.grant.0 (sym j.grant.1 ∙ i.grant.1))
  one_item NoMore NoMore i j = refl
  one_item NoMore (Sent k y) i j = absurd (not_bare grant_item.NoMore i.grant.0 grants i.grant.1 (j.no_grant i.awaited))
  one_item (Sent c x) Nothing i j = absurd (no_parcel_left c x i (j.no_parcel c (exist c i.awaited.0) i.awaited.1))
  one_item (Sent c x) (Due f) i j = absurd (due_first f j i.undue)
  one_item (Sent c x) (Granted f) i j = absurd (not_bare (grant_item.Entry f) j.grant.0 grants j.grant.1 (i.no_grant j.awaited))
  one_item (Sent c x) NoMore i j = absurd (not_bare grant_item.NoMore j.grant.0 grants j.grant.1 (i.no_grant j.awaited))
  one_item (Sent c x) (Sent k y) i j = both_sent c k x y i j

-- the answer to an item is one
one_answer : (p : Progress) (item : Item) (x y : TileAnswer) → IsTileAnswer p item x → IsTileAnswer p item y → y ≡ x
one_answer p Nothing x y (inl i) (inl j) = j.0 ∙ sym i.0
one_answer p Nothing x y (inl i) (inr j) = absurd (j.1 i.1)
one_answer p Nothing x y (inr i) (inl j) = absurd (i.1 j.1)
one_answer p Nothing x y (inr i) (inr j) = j.0 ∙ sym i.0
one_answer p (Due e) x y i j = j ∙ sym i
one_answer p (Granted e) x y i j = j ∙ sym i
one_answer p NoMore x y i j = j ∙ sym i
one_answer p (Sent c parcel) x y i j = j ∙ sym i

-- ---- two moves of alike tiles

finds_alike : (a b : Tile) (item : Item) (i : ℕ) → b.progress ≡ a.progress → b.next ≡ a.next → FindsNoParcel a item i → FindsNoParcel b item i
finds_alike a b Nothing i e f h = ap (λ p. is_asked p i) e ∙ h
finds_alike a b (Due entry) i e f h = h
finds_alike a b (Granted entry) i e f h = h
finds_alike a b NoMore i e f h = h
finds_alike a b (Sent c x) i e f h = (subst (λ n. IsEarlier n c i) (sym f) h.0, ap (λ p. is_asked p i) e ∙ h.1)

module _ (scene : Scene) (l : Layout) (depth : ℕ) (w v w' v' : World) (tile : ℕ) (answer answer' : TileAnswer) (sound : IsSound scene l w) (h : AreAlike scene l w w')
    (m : IsTileMove scene l depth w tile answer v) (m' : IsTileMove scene l depth w' tile answer' v') where
  abbrev a : Tile
  a = w.tiles tile

  way : IsUnderWay (sync_lists_of scene) w.manager.book.journal (λ client. jobs_of scene l client tile) a.progress
  way = ((sound.tiles tile m.low).stands w.manager.book.journal (goes_on scene l w sound)).progress

  exist : (c : ℕ) → c < a.progress.count → c < client_total scene
  exist c low = subst (λ n. c < n) (way.count ∙ scene_client_count scene) low

  here : IsDone a (client_total scene) (λ c. w.parcels c tile) (w.grants tile) exist m.item
  here = record {
    awaited = m.step.awaited;
    undue = m.step.undue;
    parcel = λ c lc. is_first (parcel_taken m.item c) (w.parcels c tile) (w.parcels c tile) (v.parcels c tile) refl (m.parcel c lc);
    no_parcel = m.no_parcel;
    grant = is_first (grant_taken m.item) (w.grants tile) (w.grants tile) (v.grants tile) refl m.grant;
    no_grant = m.no_grant;
  }

  there : IsDone a (client_total scene) (λ c. w.parcels c tile) (w.grants tile) exist m'.item
  there =
      let e = h.progress tile m.low in
      record {
        awaited = subst (λ p. IsAwaited p m'.item) e m'.step.awaited;
        undue = subst (λ p. IsUndue p m'.item) e m'.step.undue;
        parcel = λ c lc. is_first (parcel_taken m'.item c) (w.parcels c tile) (w'.parcels c tile) (v'.parcels c tile) (sym (h.parcels c tile lc m.low)) (m'.parcel c lc);
        no_parcel = λ c lc found. sym (h.parcels c tile lc m.low) ∙ m'.no_parcel c lc (finds_alike a (w'.tiles tile) m'.item c e (h.next tile m.low) found);
        grant = is_first (grant_taken m'.item) (w.grants tile) (w'.grants tile) (v'.grants tile) (sym (h.grants tile m.low)) m'.grant;
        no_grant = λ found. sym (h.grants tile m.low) ∙ m'.no_grant (subst (λ p. FindsNoGrant p m'.item) (sym e) found);
      }

  same_item : m'.item ≡ m.item
  same_item = one_item a (client_total scene) (λ c. w.parcels c tile) (w.grants tile) exist m.item m'.item here there

  pub tile_alike : (answer' ≡ answer) × AreAlike scene l v v'
  tile_alike =
      let same = same_item in
      let e = h.progress tile m.low in (
        one_answer a.progress m.item answer answer' m.answered (subst (λ p. IsTileAnswer p m.item answer') e (subst (λ i. IsTileAnswer (w'.tiles tile).progress i answer') same m'.answered)),
        record {
          left = λ c lc. ap (λ (k : Client). k.left) (m'.only.clients c lc) ∙ h.left c lc ∙ sym (ap (λ (k : Client). k.left) (m.only.clients c lc));
          manager = m'.only.manager ∙ h.manager ∙ sym m.only.manager;
          progress = at_one_or_other (λ t. t < tile_count l → (v'.tiles t).progress ≡ (v.tiles t).progress) tile
              (λ lt. m'.step.progress ∙ ap (λ p. after_item p m'.item) e ∙ ap (λ i. after_item a.progress i) same ∙ sym m.step.progress)
              (λ t ne lt. ap (λ (b : Tile). b.progress) (m'.only.tiles t lt ne) ∙ h.progress t lt ∙ sym (ap (λ (b : Tile). b.progress) (m.only.tiles t lt ne)));
          next = at_one_or_other (λ t. t < tile_count l → (v'.tiles t).next ≡ (v.tiles t).next) tile
              (λ lt. m'.step.next ∙ ap (λ n. next_after n m'.item) (h.next tile m.low) ∙ ap (λ i. next_after a.next i) same ∙ sym m.step.next)
              (λ t ne lt. ap (λ (b : Tile). b.next) (m'.only.tiles t lt ne) ∙ h.next t lt ∙ sym (ap (λ (b : Tile). b.next) (m.only.tiles t lt ne)));
          parcels = λ c. at_one_or_other (λ t. c < client_total scene → t < tile_count l → v'.parcels c t ≡ v.parcels c t) tile
              (λ lc lt. same_rest (parcel_taken m.item c) (w.parcels c tile) (w'.parcels c tile) (v.parcels c tile) (v'.parcels c tile) (h.parcels c tile lc m.low) (m.parcel c lc)
              (subst (λ i. MatchOption (parcel_taken i c) (v'.parcels c tile ≡ w'.parcels c tile) (λ x. w'.parcels c tile ≡ x ∷ v'.parcels c tile)) same (m'.parcel c lc)))
              (λ t ne lc lt. m'.only.parcels c t lc lt ne ∙ h.parcels c t lc lt ∙ sym (m.only.parcels c t lc lt ne));
          requests = λ c lc. m'.only.requests c lc ∙ h.requests c lc ∙ sym (m.only.requests c lc);
          grants = at_one_or_other (λ t. t < tile_count l → v'.grants t ≡ v.grants t) tile
              (λ lt. same_rest (grant_taken m.item) (w.grants tile) (w'.grants tile) (v.grants tile) (v'.grants tile) (h.grants tile m.low) m.grant
              (subst (λ i. MatchOption (grant_taken i) (v'.grants tile ≡ w'.grants tile) (λ x. w'.grants tile ≡ x ∷ v'.grants tile)) same m'.grant))
              (λ t ne lt. m'.only.grants t lt ne ∙ h.grants t lt ∙ sym (m.only.grants t lt ne));
        },
      )
